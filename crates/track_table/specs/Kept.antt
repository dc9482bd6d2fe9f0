-- What a table keeps of all records put into it, and what it answers to one more (this project's profile).
use Rattle.std.specs.Prelude.{◌≡◌, ℕ, ◌≤◌, Bool, true, not, ◌&&◌, List, map, Option, Some, None, ℤ, ◌≤ℤ◌, filter, All, if◌then◌else◌}
use Rattle.std.specs.Option.{ForSome, option_map}
use Rattle.track_motion.specs.declared.rank.Stamped.{Stamped}
use Rattle.track_motion.specs.declared.track.TrackKey.{TrackKey}
use Rattle.track_motion.specs.Ranks.{outranks}
use Rattle.track_table.specs.declared.table.Put.{Put}
use Rattle.track_table.specs.declared.table.Put.TheVariants.{Kept, Superseded}
use Rattle.track_table.specs.Held.{Held}
use Rattle.track_table.specs.Tables.{highest, is_recent, newest, of_key}
use Rattle.track_table.specs.Times.{IsTime, cycle_time}

-- a record counts before the first table is taken, and then while it was told at most the timeout before the last one's time
abbrev pub counts : ℤ → Option ℤ → Stamped → Bool
counts timeout None r = true
counts timeout (Some time) r = is_recent time timeout r

-- each record with its track's key
abbrev pub entries_of : List Stamped → List (TrackKey × Stamped)
entries_of records = map (λ r. (r.track.key, r)) records

-- the table keeps, of all records put into it, of each track the highest, while it counts
abbrev pub StandsFor : Held → List Stamped → Type 0
StandsFor held puts = held.kept ≡ entries_of (filter (counts held.timeout held.frozen) (newest puts))

-- the record kept for a track, unless a record of the track outranks it
abbrev pub unless_outranked : Stamped → Option Stamped → Option Stamped
unless_outranked s None = None
unless_outranked s (Some r) = if outranks s r then None else Some r

-- the records of a track that count
abbrev pub counting : ℤ → Option ℤ → TrackKey → List Stamped → List Stamped
counting timeout frozen key puts = filter (counts timeout frozen) (of_key key puts)

-- the records of the same track that count and that a record doesn't outrank
abbrev pub unbeaten : ℤ → Option ℤ → List Stamped → Stamped → List Stamped
unbeaten timeout frozen puts s = filter (λ r. counts timeout frozen r && not (outranks s r)) (of_key s.track.key puts)

-- the answer to a record: superseded by the highest of these, or kept where there is none
abbrev pub superseded_by : Option Stamped → Put
superseded_by None = Kept
superseded_by (Some r) = Superseded r

abbrev pub answer_to : ℤ → Option ℤ → List Stamped → Stamped → Put
answer_to timeout frozen puts s = superseded_by (highest (unbeaten timeout frozen puts s))

-- what becomes of a record where one is kept for its track
abbrev pub told_of : Stamped → Option Stamped → Option Put
told_of s kept = option_map (λ r. superseded_by (unless_outranked s (Some r))) kept

-- a table can be taken of a cycle that doesn't end before the last one taken
pub record CanFreeze (held : Held) (cycle : ℕ) : Type 0 where
  pub time : IsTime (cycle_time held.start held.period cycle)
  pub order : ForSome held.frozen (λ last. last ≤ℤ cycle_time held.start held.period cycle)

-- each record was told by the end of a cycle
abbrev pub AreDue : ℕ → List Stamped → Type 0
AreDue cycle records = All (λ r. r.window ≤ cycle) records
