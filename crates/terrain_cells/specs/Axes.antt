-- The ranges of the numbers along an axis: of a terrain's cells, and of a track's place and speed (this project's profile).
use Rattle.std.specs.Prelude.{ℕ, ◌^◌, ◌≤◌, unsigned_abs, ℤ}
use Rattle.terrain_file.specs.Ranges.{IsCorner, IsSide}
use Rattle.terrain_file.specs.declared.terrain.TheConstants.{MOST_CELLS}
use Rattle.track_motion.specs.declared.motion.TheConstants.{FARTHEST, FASTEST}

-- the place along an axis, or the altitude, and its change each tick, of a motion in range
pub record IsCourse (start speed : ℤ) : Type 0 where
  pub near : unsigned_abs start ≤ FARTHEST
  pub slow : unsigned_abs speed ≤ FASTEST

-- the cells of a terrain in range, and the course of a motion in range
pub record IsAxis (corner side : ℤ) (count : ℕ) (place speed : ℤ) : Type 0 where
  pub corner_near : IsCorner corner
  pub side_long : IsSide side
  pub count_few : count ≤ MOST_CELLS
  pub course : IsCourse place speed

-- a place along an axis, or an altitude, that a track in range has at some tick of a look-ahead
abbrev pub IsPlace : ℤ → Type 0
IsPlace place = unsigned_abs place ≤ 2 ^ 33

-- a height in the units of an altitude
abbrev pub IsLimit : ℤ → Type 0
IsLimit limit = unsigned_abs limit ≤ 2 ^ 30
