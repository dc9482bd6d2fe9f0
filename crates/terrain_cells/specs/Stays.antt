-- Bands of places along an axis that have one column, or one row, and how long a track stays in one (this project's profile).
use Rattle.std.specs.Prelude.{◌≡◌, ℕ, ◌≤◌, Option, unsigned_abs, ℤ, pos, ◌+ℤ◌, ◌*ℤ◌, ◌≤ℤ◌, ◌<ℤ◌}
use Rattle.tick_sets.specs.Inequalities.{line_at}
use Rattle.terrain_file.specs.declared.terrain.Terrain.{Terrain}
use Rattle.track_motion.specs.declared.motion.Motion.{Motion}
use Rattle.terrain_cells.specs.Cells.{cell_along}
use Rattle.terrain_cells.specs.declared.axis.Axis.{Axis}
use Rattle.terrain_cells.specs.declared.axis.Band.{Band}
use Rattle.terrain_cells.specs.declared.axis.Stay.{Stay}
use Rattle.terrain_cells.specs.declared.axis.TheConstants.{FAR}

-- the axis of a terrain's columns, along which a track moves
pub record AreColumns (m : Motion) (terrain : Terrain) (axis : Axis) : Type 0 where
  pub corner : axis.corner ≡ terrain.x0
  pub side : axis.side ≡ terrain.cell
  pub count : axis.count ≡ terrain.columns
  pub place : axis.place ≡ m.x
  pub speed : axis.speed ≡ m.vx

-- the axis of its rows
pub record AreRows (m : Motion) (terrain : Terrain) (axis : Axis) : Type 0 where
  pub corner : axis.corner ≡ terrain.y0
  pub side : axis.side ≡ terrain.cell
  pub count : axis.count ≡ terrain.rows
  pub place : axis.place ≡ m.y
  pub speed : axis.speed ≡ m.vy

-- where a column, or a row, begins; of the count, where the last one ends
abbrev pub border_of : Axis → ℕ → ℤ
border_of axis index = axis.corner +ℤ axis.side *ℤ pos index

-- the column, or the row, that has a place
abbrev pub cell_of : Axis → ℤ → Option ℕ
cell_of axis place = cell_along axis.corner axis.side axis.count place

-- the track's place at a tick
abbrev pub place_at : Axis → ℤ → ℤ
place_at axis t = line_at axis.speed axis.place t

-- a place is in a band: from its low end, included, to its high one, excluded
pub record IsIn (band : Band) (place : ℤ) : Type 0 where
  pub from : band.low ≤ℤ place
  pub before : place <ℤ band.high

-- no end of a band, and no border, is farther
abbrev pub IsEnd : ℤ → Type 0
IsEnd end = unsigned_abs end ≤ unsigned_abs FAR

-- both ends of a band are such
pub record IsWide (band : Band) : Type 0 where
  pub low : IsEnd band.low
  pub high : IsEnd band.high

-- a band that has a place in it, and whose places all have its column, or row
pub record IsBandOf (axis : Axis) (place : ℤ) (band : Band) : Type 0 where
  pub wide : IsWide band
  pub has : IsIn band place
  pub same : (other : ℤ) → IsIn band other → cell_of axis other ≡ band.index

-- the track is in the band from a tick on, until the last of 0..=look or until one after which it isn't
pub record IsLastIn (axis : Axis) (band : Band) (from look last : ℤ) : Type 0 where
  pub not_before : from ≤ℤ last
  pub not_after : last ≤ℤ look
  pub stays : (t : ℤ) → from ≤ℤ t → t ≤ℤ last → IsIn band (place_at axis t)
  pub leaves : last <ℤ look → ¬ IsIn band (place_at axis (last +ℤ pos 1))

-- from a tick on the track is in the stay's column, or row, until the stay's last tick
pub record IsKept (axis : Axis) (from look : ℤ) (stay : Stay) : Type 0 where
  pub not_after : stay.last ≤ℤ look
  pub same : (t : ℤ) → from ≤ℤ t → t ≤ℤ stay.last → cell_of axis (place_at axis t) ≡ stay.index

-- and that isn't over
pub record IsStay (axis : Axis) (from look : ℤ) (stay : Stay) : Type 0 where
  pub not_before : from ≤ℤ stay.last
  pub kept : IsKept axis from look stay
