-- Records in any order: when two lists of them have the same tables (this project's profile).
use Rattle.std.specs.Prelude.{◌≡◌, false, List, Contains}
use Rattle.track_motion.specs.declared.rank.Stamped.{Stamped}
use Rattle.track_motion.specs.Ranks.{outranks}

-- two of the records of which neither outranks the other are the same record
abbrev pub AreRanked : List Stamped → Type 0
AreRanked records = (a b : Stamped) → Contains records a → Contains records b → outranks a b ≡ false → outranks b a ≡ false → a ≡ b

-- each record of the one list is in the other
pub record AreSame (records others : List Stamped) : Type 0 where
  pub each : (r : Stamped) → Contains records r → Contains others r
  pub all : (r : Stamped) → Contains others r → Contains records r
