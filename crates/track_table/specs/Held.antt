-- What a table keeps (this project's profile).
use Rattle.std.specs.Prelude.{List, Option, ℤ}
use Rattle.track_motion.specs.declared.rank.Stamped.{Stamped}
use Rattle.track_motion.specs.declared.track.TrackKey.{TrackKey}

-- where the cycles begin, how long each is, for how long after it was told a record stays a row; the time of
-- the last table taken; and a record for each key that has one, in key order
pub record Held : Type 0 where
  pub start : ℤ
  pub period : ℤ
  pub timeout : ℤ
  pub frozen : Option ℤ
  pub kept : List (TrackKey × Stamped)
