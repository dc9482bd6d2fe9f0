-- The ranges of a terrain (this project's profile).
use Rattle.std.specs.Prelude.{◌≡◌, ℕ, ◌*◌, ◌≤◌, ◌^◌, length, ℤ, pos, ◌≤ℤ◌, unsigned_abs}
use Rattle.track_motion.specs.declared.motion.TheConstants.{LENGTH_UNITS_PER_HALF_METRE}
use Rattle.terrain_file.specs.declared.terrain.Terrain.{Terrain}
use Rattle.terrain_file.specs.declared.terrain.TheConstants.{LEAST_SIDE, MOST_CELLS, MOST_SIDE}

-- so many metres in length units
abbrev pub metres : ℕ → ℕ
metres count = 2 * count * LENGTH_UNITS_PER_HALF_METRE

-- a corner's place along an axis: metres in 32 signed bits, in length units
abbrev pub IsCorner : ℤ → Type 0
IsCorner place = unsigned_abs place ≤ metres (2 ^ 31)

-- the side of a cell
pub record IsSide (side : ℤ) : Type 0 where
  pub low : pos (metres LEAST_SIDE) ≤ℤ side
  pub high : side ≤ℤ pos (metres MOST_SIDE)

-- a terrain in range, with a value for each cell
pub record IsTerrain (terrain : Terrain) : Type 0 where
  pub x0 : IsCorner terrain.x0
  pub y0 : IsCorner terrain.y0
  pub cell : IsSide terrain.cell
  pub columns : terrain.columns ≤ MOST_CELLS
  pub rows : terrain.rows ≤ MOST_CELLS
  pub values : length terrain.values ≡ terrain.rows * terrain.columns
