-- When the tracks of a feed were told, and in which cycles (this project's profile).
use Rattle.std.specs.Prelude.{ℕ, ◌+◌, List, [], ◌∷◌, ℤ, ◌≤ℤ◌, fold}
use Rattle.std.specs.Int.{int_max}
use Rattle.std.specs.List.{enumerate_from, flat_map}
use Rattle.track_motion.specs.declared.rank.Stamped.{Stamped}
use Rattle.track_motion.specs.declared.track.Track.{Track}
use Rattle.track_table.specs.Times.{AreCycles, IsTime, at_near, window_of}

-- a feed's clock: where the cycles begin, how long each is, and the latest time so far
pub record Clock : Type 0 where
  pub start : ℤ
  pub period : ℤ
  pub latest : ℤ

-- a clock's latest time isn't before the cycles begin
pub record IsClock (start period latest : ℤ) : Type 0 where
  pub cycles : AreCycles start period
  pub time : IsTime latest
  pub begun : start ≤ℤ latest

-- before the first track the latest time is the start
abbrev pub clock_at_start : ℤ → ℤ → Clock
clock_at_start start period = record { start = start; period = period; latest = start }

-- the latest time with one more track, which was told near to the latest one before it
abbrev pub latest_with : Clock → Track → ℤ
latest_with clock track = int_max clock.latest (at_near clock.latest track.time)

abbrev pub clock_after : Clock → Track → Clock
clock_after clock track = record { start = clock.start; period = clock.period; latest = latest_with clock track }

-- the clock of a feed after some tracks
abbrev pub clock_of : ℤ → ℤ → List Track → Clock
clock_of start period tracks = fold clock_after (clock_at_start start period) tracks

-- the stamp of a feed's track: its time, and the cycle that the latest time so far falls into
abbrev pub stamp_of : Clock → ℕ → ℕ → Track → Stamped
stamp_of clock feed place track = record {
  track = track;
  feed = feed;
  place = place;
  at = at_near clock.latest track.time;
  window = window_of clock.start clock.period (latest_with clock track);
}

-- the stamps of a feed's tracks, from a clock and a place on
abbrev pub stamps_from : Clock → ℕ → ℕ → List Track → List Stamped
stamps_from clock feed place [] = []
stamps_from clock feed place (track ∷ tracks) = stamp_of clock feed place track ∷ stamps_from (clock_after clock track) feed (place + 1) tracks

-- the stamps of all tracks of a feed
abbrev pub stamps_of : ℤ → ℤ → ℕ → List Track → List Stamped
stamps_of start period feed tracks = stamps_from (clock_at_start start period) feed 0 tracks

-- the stamps of all feeds' tracks; feeds are numbered from 0
abbrev pub stamps_of_feeds : ℤ → ℤ → List (List Track) → List Stamped
stamps_of_feeds start period feeds = flat_map (λ feed. stamps_of start period feed.0 feed.1) (enumerate_from 0 feeds)
