-- Which cell of a terrain holds a place, and the height of a cell (this project's profile).
use Rattle.std.specs.Prelude.{ℕ, ◌+◌, ◌*◌, ◌/◌, nat_lt, ◌&&◌, int_le, slice_get, Option, Some, None, unsigned_abs, ℤ, ◌-ℤ◌, if◌then◌else◌}
use Rattle.std.specs.Option.{option_and_then}
use Rattle.std.specs.Ordering.{int_eq}
use Rattle.terrain_file.specs.declared.terrain.Terrain.{Terrain}
use Rattle.terrain_file.specs.declared.terrain.TheConstants.{NO_HEIGHT}

-- the distance from a corner over the side of a cell, rounded down
abbrev pub sides_from : ℤ → ℤ → ℤ → ℕ
sides_from corner side place = unsigned_abs (place -ℤ corner) / unsigned_abs side

-- along an axis the column, or the row, that holds a place: there where the place isn't before the corner, and that quotient is below the count
abbrev pub cell_along : ℤ → ℤ → ℕ → ℤ → Option ℕ
cell_along corner side count place =
    if int_le corner place && nat_lt (sides_from corner side place) count then Some (sides_from corner side place) else None

abbrev pub column_at : Terrain → ℤ → Option ℕ
column_at terrain x = cell_along terrain.x0 terrain.cell terrain.columns x

abbrev pub row_at : Terrain → ℤ → Option ℕ
row_at terrain y = cell_along terrain.y0 terrain.cell terrain.rows y

-- the height that a value tells
abbrev pub height_told : ℤ → Option ℤ
height_told value = if int_eq value NO_HEIGHT then None else Some value

-- the height of a cell, in 25 ft: values stand row by row
abbrev pub cell_height : Terrain → ℕ → ℕ → Option ℤ
cell_height terrain column row = option_and_then height_told (slice_get terrain.values (row * terrain.columns + column))

-- the height in a column and a row, where there are both
abbrev pub height_in : Terrain → Option ℕ → Option ℕ → Option ℤ
height_in terrain column row = option_and_then (λ c. option_and_then (λ r. cell_height terrain c r) row) column

-- the height of the cell that holds a place
abbrev pub height_at : Terrain → ℤ → ℤ → Option ℤ
height_at terrain x y = height_in terrain (column_at terrain x) (row_at terrain y)
