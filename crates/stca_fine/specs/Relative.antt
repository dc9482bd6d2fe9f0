-- The relative motion of two tracks: where the second is from the first, and how that changes (this project's profile: exact in whole numbers).
use Rattle.std.specs.Prelude.{ℕ, ◌^◌, ◌≤◌, ◌/◌, unsigned_abs, ℤ, pos, ◌-ℤ◌, ◌*ℤ◌, ◌≤ℤ◌, ◌<ℤ◌, Bool, ◌&&◌, int_lt, int_le}
use Rattle.tick_sets.specs.Inequalities.{IsLook, line_at}
use Rattle.tick_sets.specs.Plane.{scalar_product, squared_length}
use Rattle.tick_sets.specs.Roots.{root, least_tick_of}
use Rattle.track_motion.specs.declared.motion.Motion.{Motion}
use Rattle.track_motion.specs.declared.motion.TheConstants.{LENGTH_UNITS_PER_HALF_METRE, HEIGHT_UNITS_PER_25_FEET}
use Rattle.track_motion.specs.Motions.{InRange}

-- two tracks whose motions are in range
pub record ArePair (a b : Motion) : Type 0 where
  pub first : InRange a
  pub second : InRange b

-- distances and their changes each tick, in the units of a motion
pub record RelativeMotion : Type 0 where
  pub dx : ℤ
  pub dy : ℤ
  pub dz : ℤ
  pub dvx : ℤ
  pub dvy : ℤ
  pub dvz : ℤ

-- b's values less a's
abbrev pub relative : Motion → Motion → RelativeMotion
relative a b = record {
  dx = b.x -ℤ a.x;
  dy = b.y -ℤ a.y;
  dz = b.z -ℤ a.z;
  dvx = b.vx -ℤ a.vx;
  dvy = b.vy -ℤ a.vy;
  dvz = b.vz -ℤ a.vz;
}

-- a distance along an axis and its change, of two motions in range
pub record IsDrift (d v : ℤ) : Type 0 where
  pub apart : unsigned_abs d ≤ 2 ^ 33
  pub speed : unsigned_abs v ≤ 2 ^ 16

-- a limit that a distance is held against
pub record IsLimit (limit : ℤ) : Type 0 where
  pub low : pos 0 ≤ℤ limit
  pub high : limit ≤ℤ pos (2 ^ 32)

-- a horizontal and a vertical limit, and a look-ahead
pub record IsReach (h v look : ℤ) : Type 0 where
  pub horizontal : IsLimit h
  pub vertical : IsLimit v
  pub ahead : IsLook look

-- the distance along each axis at a tick
abbrev pub dx_at : RelativeMotion → ℕ → ℤ
dx_at r t = line_at r.dvx r.dx (pos t)

abbrev pub dy_at : RelativeMotion → ℕ → ℤ
dy_at r t = line_at r.dvy r.dy (pos t)

abbrev pub dz_at : RelativeMotion → ℕ → ℤ
dz_at r t = line_at r.dvz r.dz (pos t)

-- the square of the horizontal distance at a tick, which is never below 0
abbrev pub squared_at : RelativeMotion → ℕ → ℕ
squared_at r t = unsigned_abs (squared_length (dx_at r t) (dy_at r t))

-- the horizontal separation at a tick in whole half-metres
abbrev pub horizontal : RelativeMotion → ℕ → ℕ
horizontal r t = root (squared_at r t) / LENGTH_UNITS_PER_HALF_METRE

-- the vertical separation at a tick in whole 25 ft
abbrev pub vertical : RelativeMotion → ℕ → ℕ
vertical r t = unsigned_abs (dz_at r t) / HEIGHT_UNITS_PER_25_FEET

-- the least tick of 0..=look at which the two are horizontally closest
abbrev pub closest_tick : RelativeMotion → ℕ → ℕ
closest_tick r look = least_tick_of (squared_at r) look

-- at a tick the two are horizontally nearer than the limit
abbrev pub is_near_at : RelativeMotion → ℤ → ℕ → Bool
is_near_at r limit t = int_lt (squared_length (dx_at r t) (dy_at r t)) (limit *ℤ limit)

-- at a tick the two are vertically nearer than the limit
abbrev pub is_level_at : RelativeMotion → ℤ → ℕ → Bool
is_level_at r limit t = int_lt (pos (unsigned_abs (dz_at r t))) limit

-- at a tick the two are nearer than both limits
abbrev pub is_within : RelativeMotion → ℤ → ℤ → ℕ → Bool
is_within r h v t = is_near_at r h t && is_level_at r v t

-- the same, as facts
abbrev pub IsNear : RelativeMotion → ℤ → ℤ → Type 0
IsNear r limit t = squared_length (line_at r.dvx r.dx t) (line_at r.dvy r.dy t) <ℤ (limit *ℤ limit)

abbrev pub IsLevel : RelativeMotion → ℤ → ℤ → Type 0
IsLevel r limit t = pos (unsigned_abs (line_at r.dvz r.dz t)) <ℤ limit

abbrev pub IsWithin : RelativeMotion → ℤ → ℤ → ℤ → Type 0
IsWithin r h v t = IsNear r h t × IsLevel r v t

-- the horizontal distance doesn't grow at tick 0
abbrev pub is_closing : RelativeMotion → Bool
is_closing r = int_le (scalar_product r.dx r.dy r.dvx r.dvy) (pos 0)

-- along an axis the two are no nearer than the limit at any tick of 0..=look
abbrev pub StaysBeyond : ℤ → ℤ → ℤ → ℤ → Type 0
StaysBeyond d v limit look = (t : ℕ) → pos t ≤ℤ look → limit ≤ℤ pos (unsigned_abs (line_at v d (pos t)))
