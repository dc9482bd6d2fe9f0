-- What a cutter holds (this project's profile).
use Rattle.std.specs.Prelude.{ℕ, List}

-- the octets fed that stand in no block given, and the offset in the feed of the first of them
pub record Held : Type 0 where
  pub offset : ℕ
  pub octets : List ℕ
