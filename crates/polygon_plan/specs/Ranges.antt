-- How far from 0 points and places may be, and which ticks are looked at (this project's profile).
use Rattle.std.specs.Prelude.{◌*◌, ◌≤◌, List, All, ℤ, unsigned_abs}
use Rattle.tick_sets.specs.Inequalities.{IsLook}
use Rattle.tick_sets.specs.Ticks.{Has}
use Rattle.tick_sets.specs.declared.Ticks.{Ticks}
use Rattle.track_motion.specs.declared.motion.TheConstants.{FARTHEST}

-- a point of a polygon
pub record IsPoint (point : ℤ × ℤ) : Type 0 where
  pub x : unsigned_abs point.0 ≤ FARTHEST
  pub y : unsigned_abs point.1 ≤ FARTHEST

abbrev pub ArePoints : List (ℤ × ℤ) → Type 0
ArePoints points = All IsPoint points

-- a place as far from 0 as a motion in range comes within a look-ahead, or less far
pub record IsPlace (x y : ℤ) : Type 0 where
  pub near_x : unsigned_abs x ≤ 2 * FARTHEST
  pub near_y : unsigned_abs y ≤ 2 * FARTHEST

-- each of the ticks can be the last tick of a look-ahead
abbrev pub AreAhead : Ticks → Type 0
AreAhead ticks = (t : ℤ) → Has ticks t → IsLook t
