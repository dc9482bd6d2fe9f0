-- The table of a cycle: of each track the record that outranks the others, over all records of all feeds (this project's profile).
use Rattle.std.specs.Prelude.{◌≡◌, ℕ, ◌≤◌, Bool, false, not, ◌&&◌, List, [], Option, ℤ, ◌-ℤ◌, ◌≤ℤ◌, int_le, nat_le, filter, find, fold, All, Contains}
use Rattle.std.specs.List.{filter_map, list_any}
use Rattle.std.specs.Ordering.{eq_by_cmp}
use Rattle.std.specs.BTreeSet.{insert_key}
use Rattle.track_motion.specs.declared.rank.Stamped.{Stamped}
use Rattle.track_motion.specs.declared.track.TrackKey.{TrackKey}
use Rattle.track_motion.specs.Keys.{key_cmp}
use Rattle.track_motion.specs.Ranks.{outranks}
use Rattle.track_table.specs.Times.{cycle_time}

-- the keys of records, each once, in key order
abbrev pub keys_of : List Stamped → List TrackKey
keys_of records = fold (λ keys r. insert_key key_cmp keys r.track.key) [] records

-- the records of one track
abbrev pub of_key : TrackKey → List Stamped → List Stamped
of_key key records = filter (λ r. eq_by_cmp key_cmp key r.track.key) records

-- the first of the records that none of them outranks
abbrev pub highest : List Stamped → Option Stamped
highest records = find (λ r. not (list_any (λ other. outranks other r) records)) records

-- one of the records that none of them outranks
pub record IsHighest (records : List Stamped) (r : Stamped) : Type 0 where
  pub one : Contains records r
  pub best : All (λ other. outranks other r ≡ false) records

-- of each track the highest of its records, in key order
abbrev pub newest : List Stamped → List Stamped
newest records = filter_map (λ key. highest (of_key key records)) (keys_of records)

-- the records that were told by the end of a cycle
abbrev pub due : ℕ → List Stamped → List Stamped
due cycle records = filter (λ r. nat_le r.window cycle) records

-- the record was told at most the timeout before a time
abbrev pub is_recent : ℤ → ℤ → Stamped → Bool
is_recent time timeout r = int_le (time -ℤ r.at) timeout

-- and isn't the last of its track
abbrev pub is_row : ℤ → ℤ → Stamped → Bool
is_row time timeout r = not r.track.ended && is_recent time timeout r

-- the rows of a cycle's table, in key order
abbrev pub table : ℤ → ℤ → ℤ → ℕ → List Stamped → List Stamped
table start period timeout cycle records = filter (is_row (cycle_time start period cycle) timeout) (newest (due cycle records))

-- a record that was told by the end of a cycle and not longer before it than the timeout, isn't the last of its
-- track, and isn't outranked by another of its track that was told by then
pub record IsRowOf (start period timeout : ℤ) (cycle : ℕ) (records : List Stamped) (r : Stamped) : Type 0 where
  pub one : Contains records r
  pub told : r.window ≤ cycle
  pub best : All (λ other. outranks other r ≡ false) (of_key r.track.key (due cycle records))
  pub goes_on : r.track.ended ≡ false
  pub recent : (cycle_time start period cycle -ℤ r.at) ≤ℤ timeout
