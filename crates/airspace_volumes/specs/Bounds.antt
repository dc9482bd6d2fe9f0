-- How far a polygon's points lie along each axis, and tracks that pass by all of them (this project's profile).
use Rattle.std.specs.Prelude.{◌⊎◌, ℕ, ◌<◌, ◌≤◌, List, All, length, unsigned_abs, ℤ, pos, ◌≤ℤ◌, ◌<ℤ◌}
use Rattle.tick_sets.specs.Inequalities.{line_at}
use Rattle.track_motion.specs.declared.motion.Motion.{Motion}
use Rattle.track_motion.specs.declared.motion.TheConstants.{FARTHEST, FASTEST}
use Rattle.airspace_volumes.specs.declared.bounds.Bounds.{Bounds}

-- a point is within the bounds
pub record IsWithin (bounds : Bounds) (point : ℤ × ℤ) : Type 0 where
  pub left : bounds.left ≤ℤ point.0
  pub right : point.0 ≤ℤ bounds.right
  pub lower : bounds.lower ≤ℤ point.1
  pub upper : point.1 ≤ℤ bounds.upper

abbrev pub AreWithin : Bounds → List (ℤ × ℤ) → Type 0
AreWithin bounds points = All (IsWithin bounds) points

-- the bounds are within other ones
pub record AreInside (bounds other : Bounds) : Type 0 where
  pub left : other.left ≤ℤ bounds.left
  pub right : bounds.right ≤ℤ other.right
  pub lower : other.lower ≤ℤ bounds.lower
  pub upper : bounds.upper ≤ℤ other.upper

-- the bounds are within all that the points are within
abbrev pub AreLeast : Bounds → List (ℤ × ℤ) → Type 0
AreLeast bounds points = (other : Bounds) → AreWithin other points → AreInside bounds other

-- the bounds of points: each point is within them, and where there are points no narrower ones have all of them
pub record AreBoundsOf (bounds : Bounds) (points : List (ℤ × ℤ)) : Type 0 where
  pub within : AreWithin bounds points
  pub least : 0 < length points → AreLeast bounds points

-- a place along an axis and its change each tick, of a motion in range
pub record IsCourse (place speed : ℤ) : Type 0 where
  pub place_near : unsigned_abs place ≤ FARTHEST
  pub slow : unsigned_abs speed ≤ FASTEST

-- along an axis the place is before a bound at each tick of 0..=look
abbrev pub StaysBefore : ℤ → ℤ → ℤ → ℕ → Type 0
StaysBefore place speed bound look = (t : ℕ) → t ≤ look → line_at speed place (pos t) <ℤ bound

-- it is at the bound or behind it
abbrev pub StaysBehind : ℤ → ℤ → ℤ → ℕ → Type 0
StaysBehind place speed bound look = (t : ℕ) → t ≤ look → bound ≤ℤ line_at speed place (pos t)

-- one of the two, of a lower and a higher bound
abbrev pub StaysBeside : ℤ → ℤ → ℤ → ℤ → ℕ → Type 0
StaysBeside place speed low high look = StaysBefore place speed low look ⊎ StaysBehind place speed high look

-- along one of the axes the track is outside the bounds at each tick of 0..=look, on one side of them
abbrev pub StaysOutside : Bounds → Motion → ℕ → Type 0
StaysOutside bounds m look = StaysBeside m.x m.vx bounds.left bounds.right look ⊎ StaysBeside m.y m.vy bounds.lower bounds.upper look

-- along an axis the track stays before all points, or at all of them or behind
abbrev pub PassesAlong : (ℤ × ℤ → ℤ) → List (ℤ × ℤ) → ℤ → ℤ → ℕ → Type 0
PassesAlong axis points place speed look = All (λ point. StaysBefore place speed (axis point) look) points ⊎ All (λ point. StaysBehind place speed (axis point) look) points

-- the track stays on one side of all points: to the left of them, to the right, under them or above
abbrev pub PassesBy : List (ℤ × ℤ) → Motion → ℕ → Type 0
PassesBy points m look = PassesAlong (λ point. point.0) points m.x m.vx look ⊎ PassesAlong (λ point. point.1) points m.y m.vy look
