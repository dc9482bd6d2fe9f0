-- Tables that the nets can look at (this project's profile).
use Rattle.std.specs.Prelude.{ℕ, List, map, ℤ, ◌<ℤ◌, All}
use Rattle.std.specs.List.Sorted.{IsStrictlySortedBy}
use Rattle.track_motion.specs.declared.rank.Stamped.{Stamped}
use Rattle.track_motion.specs.declared.track.Track.{Track}
use Rattle.track_motion.specs.Keys.{key_cmp}
use Rattle.track_motion.specs.Motions.{CanMove}
use Rattle.track_motion.specs.Tracks.{IsInPlane, IsLevelled}
use Rattle.track_table.specs.declared.table.Frozen.{Frozen}
use Rattle.track_table.specs.Tables.{table}
use Rattle.track_table.specs.Times.{cycle_time}

-- a cycle's table with its number and its time
abbrev pub frozen_of : ℤ → ℤ → ℤ → ℕ → List Stamped → Frozen
frozen_of start period timeout cycle records = record {
  cycle = cycle;
  time = cycle_time start period cycle;
  rows = table start period timeout cycle records;
}

-- a track at a place and a level within what a record can say
pub record IsSeen (track : Track) : Type 0 where
  pub place : IsInPlane track.x track.y
  pub level : IsLevelled track

-- a record as feeds tell it: before the end of its cycle, of a track at a place and a level within what a record can say
pub record IsTold (start period : ℤ) (r : Stamped) : Type 0 where
  pub time : r.at <ℤ cycle_time start period r.window
  pub seen : IsSeen r.track

-- the keys of the rows strictly rise, and each row can be moved on to the table's time
pub record IsProper (frozen : Frozen) : Type 0 where
  pub keys : IsStrictlySortedBy key_cmp (map (λ r. r.track.key) frozen.rows)
  pub rows : All (λ r. CanMove r frozen.time) frozen.rows
