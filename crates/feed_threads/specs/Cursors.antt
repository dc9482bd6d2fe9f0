-- What a cursor of a feed has left (this project's profile).
use Rattle.std.specs.Prelude.{◌≡◌, ℕ, ◌+◌, ◌≤◌, List, [], ◌∷◌, length, drop, All, Option, Some, None, IfSome, ℤ, nat_le, if◌then◌else◌}
use Rattle.std.specs.List.{filter_map}
use Rattle.cat062_read.specs.declared.record.Raw062.{Raw062}
use Rattle.cat062_read.specs.Tracks.{IsPlaced, IsQnh, track_of}
use Rattle.track_motion.specs.declared.rank.Stamped.{Stamped}
use Rattle.track_motion.specs.declared.track.Track.{Track}
use Rattle.track_table.specs.declared.clock.TheConstants.{MOST_TRACKS}
use Rattle.track_table.specs.Proper.{IsSeen}
use Rattle.track_table.specs.Stamps.{Clock, clock_of}
use Rattle.track_table.specs.Times.{AreDayCycles}

-- the tracks of the usable records from a place on
abbrev pub tracks_from : ℤ → List Raw062 → ℕ → List Track
tracks_from qnh records at = filter_map (λ raw. track_of raw qnh) (drop at records)

-- the first of stamps
abbrev pub first_of : List Stamped → Option Stamped
first_of [] = None
first_of (s ∷ others) = Some s

-- the first of them, if it was told by the end of a cycle
abbrev pub first_due : ℕ → List Stamped → Option Stamped
first_due cycle [] = None
first_due cycle (s ∷ others) = if nat_le s.window cycle then Some s else None

-- a feed's clock behind so many of its tracks, and records from a place on that it can take
pub record CanStamp (clock : Clock) (place : ℕ) (qnh : ℤ) (records : List Raw062) (at : ℕ) : Type 0 where
  pub before : List Track
  pub cycles : AreDayCycles clock.start clock.period
  pub behind : clock ≡ clock_of clock.start clock.period before
  pub number : place ≡ length before
  pub few : length before + length (tracks_from qnh records at) ≤ MOST_TRACKS
  pub placed : All IsPlaced records
  pub correction : IsQnh qnh

-- the next stamp, and those behind it: where there is no next one, none is left
pub record IsAhead (next : Option Stamped) (behind : List Stamped) : Type 0 where
  pub seen : IfSome next (λ s. IsSeen s.track)
  pub last : next ≡ None → behind ≡ []
