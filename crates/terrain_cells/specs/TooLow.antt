-- Minimum safe altitude warning in words: which cell is under a track, when a track is hit, and what the first tick of the hit is (this project's profile).
use Rattle.std.specs.Prelude.{◌≡◌, ◌≢◌, ℕ, ◌+◌, ◌*◌, ◌<◌, ◌≤◌, slice_get, Some, ℤ, pos, ◌+ℤ◌, ◌*ℤ◌, ◌≤ℤ◌, ◌<ℤ◌}
use Rattle.tick_sets.specs.Inequalities.{line_at}
use Rattle.site_types.specs.Looks.{look_of}
use Rattle.site_types.specs.declared.site.Set.{Set}
use Rattle.site_types.specs.declared.net.TheConstants.{MSAW}
use Rattle.terrain_file.specs.declared.terrain.Terrain.{Terrain}
use Rattle.terrain_file.specs.declared.terrain.TheConstants.{NO_HEIGHT}
use Rattle.track_motion.specs.declared.motion.Motion.{Motion}
use Rattle.track_motion.specs.declared.motion.TheConstants.{HEIGHT_UNITS_PER_25_FEET}

-- along an axis a column, or a row, has a place: it is from that one's lower border, included, to its upper one, excluded
pub record IsBetweenBorders (corner side : ℤ) (index : ℕ) (place : ℤ) : Type 0 where
  pub from : (corner +ℤ side *ℤ pos index) ≤ℤ place
  pub before : place <ℤ (corner +ℤ side *ℤ pos (index + 1))

-- a cell of the terrain has a place in it
pub record IsInCell (terrain : Terrain) (column row : ℕ) (x y : ℤ) : Type 0 where
  pub column_there : column < terrain.columns
  pub row_there : row < terrain.rows
  pub along_x : IsBetweenBorders terrain.x0 terrain.cell column x
  pub along_y : IsBetweenBorders terrain.y0 terrain.cell row y

-- a cell has this height in 25 ft: it is the cell's value, and not the one that says that there is none
pub record HasHeight (terrain : Terrain) (column row : ℕ) (height : ℤ) : Type 0 where
  pub value : slice_get terrain.values (row * terrain.columns + column) ≡ Some height
  pub told : height ≢ NO_HEIGHT

-- the track is too low over a cell of some height
pub record IsTooLowOver (m : Motion) (terrain : Terrain) (t : ℤ) (column row : ℕ) (height : ℤ) : Type 0 where
  pub under : IsInCell terrain column row (line_at m.vx m.x t) (line_at m.vy m.y t)
  pub high : HasHeight terrain column row height
  pub below : line_at m.vz m.alt t <ℤ (pos HEIGHT_UNITS_PER_25_FEET *ℤ height)

-- it is so over some cell
abbrev pub IsTooLowAt : Motion → Terrain → ℤ → Type 0
IsTooLowAt m terrain t = (column row : ℕ) × (height : ℤ) × IsTooLowOver m terrain t column row height

-- the track is too low at a tick: it is one of the look-ahead, and the track is too low over some cell then
pub record IsTooLow (m : Motion) (terrain : Terrain) (set : Set) (t : ℕ) : Type 0 where
  pub ahead : t ≤ look_of MSAW set
  pub over : IsTooLowAt m terrain (pos t)

-- it is so at some tick
abbrev pub IsHit : Motion → Terrain → Set → Type 0
IsHit m terrain set = (t : ℕ) × IsTooLow m terrain set t

-- it is so at this tick and at none before it
pub record IsFirstTooLow (m : Motion) (terrain : Terrain) (set : Set) (t : ℕ) : Type 0 where
  pub too_low : IsTooLow m terrain set t
  pub least : (s : ℕ) → IsTooLow m terrain set s → t ≤ s

abbrev pub IsFirst : Motion → Terrain → Set → ℤ → Type 0
IsFirst m terrain set first = (t : ℕ) × (first ≡ pos t) × IsFirstTooLow m terrain set t
