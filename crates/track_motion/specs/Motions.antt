-- Where a track is at the ticks after a cycle's time, moving on as it did (this project's profile: exact in whole numbers).
use Rattle.std.specs.Prelude.{ℕ, ◌≤◌, Option, unsigned_abs, ℤ, pos, ◌+ℤ◌, ◌-ℤ◌, ◌*ℤ◌, ◌≤ℤ◌}
use Rattle.std.specs.Option.{option_map, option_and_then}
use Rattle.track_motion.specs.declared.motion.Motion.{Motion}
use Rattle.track_motion.specs.declared.motion.TheConstants.{LENGTH_UNITS_PER_HALF_METRE, HEIGHT_UNITS_PER_25_FEET, LONGEST_AGE, FARTHEST, FASTEST}
use Rattle.track_motion.specs.declared.rank.Stamped.{Stamped}
use Rattle.track_motion.specs.declared.track.Track.{Track}
use Rattle.track_motion.specs.Tracks.{IsInPlane, IsLevelled}

-- a value that was told in so many units, after some ticks at a speed
abbrev pub moved_on : ℕ → ℤ → ℤ → ℤ → ℤ
moved_on units value speed age = pos units *ℤ value +ℤ speed *ℤ age

-- the motion of a track of this age, level and altitude
abbrev pub motion_of : Track → ℤ → ℤ → ℤ → Motion
motion_of track age level altitude = record {
  x = moved_on LENGTH_UNITS_PER_HALF_METRE track.x track.vx age;
  y = moved_on LENGTH_UNITS_PER_HALF_METRE track.y track.vy age;
  vx = track.vx;
  vy = track.vy;
  z = moved_on HEIGHT_UNITS_PER_25_FEET level track.rate age;
  alt = moved_on HEIGHT_UNITS_PER_25_FEET altitude track.rate age;
  vz = track.rate;
}

-- the motion of a track at a time: there where the track has a level
abbrev pub motion_at : Stamped → ℤ → Option Motion
motion_at s time =
    option_and_then (λ level. option_map (λ altitude. motion_of s.track (time -ℤ s.at) level altitude) s.track.altitude) s.track.level

-- a track that can be moved on to a time: it was told shortly before, at a place and a level within what a record can say
pub record CanMove (s : Stamped) (time : ℤ) : Type 0 where
  pub later : s.at ≤ℤ time
  pub recent : (time -ℤ s.at) ≤ℤ pos LONGEST_AGE
  pub place : IsInPlane s.track.x s.track.y
  pub level : IsLevelled s.track

-- positions and heights, velocities and the rate are near enough to 0
pub record InRange (m : Motion) : Type 0 where
  pub x : unsigned_abs m.x ≤ FARTHEST
  pub y : unsigned_abs m.y ≤ FARTHEST
  pub z : unsigned_abs m.z ≤ FARTHEST
  pub alt : unsigned_abs m.alt ≤ FARTHEST
  pub vx : unsigned_abs m.vx ≤ FASTEST
  pub vy : unsigned_abs m.vy ≤ FASTEST
  pub vz : unsigned_abs m.vz ≤ FASTEST
