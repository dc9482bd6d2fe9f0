-- The terrain that a file's octets are, or their first fault (this project's profile).
use Rattle.std.specs.Prelude.{ℕ, ◌+◌, ◌*◌, min, ◌==◌, nat_eq, nat_lt, nat_le, not, Bool, ◌&&◌, ◌||◌, if◌then◌else◌, ℤ, pos, ◌*ℤ◌, List, [], slice_range, length, map, Result, Ok, Err}
use Rattle.std.specs.Int.{w16, w32, cast_signed}
use Rattle.std.specs.List.{range_with_len, starts_with}
use Rattle.byteorder.specs.Endian.{big_number}
use Rattle.terrain_file.specs.declared.fault.TerrainFault.{TerrainFault}
use Rattle.terrain_file.specs.declared.fault.TerrainFault.TheVariants.{Magic, Cell, Count, Size}
use Rattle.terrain_file.specs.declared.header.Header.{Header}
use Rattle.terrain_file.specs.declared.header.TheConstants.{MAGIC, X0, Y0, SIDE, COLUMNS, ROWS, HEADER_LENGTH, VALUE_LENGTH}
use Rattle.terrain_file.specs.declared.read.TheConstants.{TERRAIN_ROOM}
use Rattle.terrain_file.specs.declared.terrain.Terrain.{Terrain}
use Rattle.terrain_file.specs.declared.terrain.TheConstants.{LEAST_SIDE, MOST_CELLS, MOST_SIDE}
use Rattle.terrain_file.specs.Ranges.{metres}

-- the header of a file that has one
abbrev pub header_of : List ℕ → Header
header_of bytes = record {
  x0 = cast_signed w32 (big_number 4 (slice_range bytes X0 Y0));
  y0 = cast_signed w32 (big_number 4 (slice_range bytes Y0 SIDE));
  side = big_number 4 (slice_range bytes SIDE COLUMNS);
  columns = big_number 2 (slice_range bytes COLUMNS ROWS);
  rows = big_number 2 (slice_range bytes ROWS HEADER_LENGTH);
}

-- how many cells there are under a header
abbrev pub cells : Header → ℕ
cells header = header.rows * header.columns

-- how many octets a file with this header has
abbrev pub length_of : Header → ℕ
length_of header = HEADER_LENGTH + VALUE_LENGTH * cells header

-- the height of the cell of this number in file order, from 0 on
abbrev pub height_of : List ℕ → ℕ → ℤ
height_of bytes cell =
    let at : ℕ = HEADER_LENGTH + VALUE_LENGTH * cell in
    cast_signed w16 (big_number 2 (slice_range bytes at (at + VALUE_LENGTH)))

-- the heights of so many cells
abbrev pub heights_of : List ℕ → ℕ → List ℤ
heights_of bytes count = map (height_of bytes) (range_with_len 0 count)

-- the terrain of a header and its cells' heights
abbrev pub terrain_under : Header → List ℤ → Terrain
terrain_under header heights = record {
  x0 = header.x0 *ℤ pos (metres 1);
  y0 = header.y0 *ℤ pos (metres 1);
  cell = pos (metres header.side);
  columns = header.columns;
  rows = header.rows;
  values = heights;
}

-- whether a terrain may have so many columns, or rows
abbrev pub is_count : ℕ → Bool
is_count count = nat_le 1 count && nat_le count MOST_CELLS

-- how many octets a file is told to have, counted up to one more than a terrain has at most
abbrev pub found_of : List ℕ → ℕ
found_of bytes = min (length bytes) (TERRAIN_ROOM + 1)

-- the terrain that a file's octets are, or their first fault
unfoldable pub terrain_of : List ℕ → Result Terrain TerrainFault
terrain_of bytes =
    let header : Header = header_of bytes in
    if not (starts_with nat_eq bytes MAGIC) then Err Magic
    else if nat_lt (length bytes) HEADER_LENGTH then Err (Size HEADER_LENGTH (found_of bytes))
    else if nat_lt header.side LEAST_SIDE || nat_lt MOST_SIDE header.side then Err (Cell header.side)
    else if not (is_count header.columns && is_count header.rows) then Err (Count header.columns header.rows)
    else if not (length bytes == length_of header) then Err (Size (length_of header) (found_of bytes))
    else Ok (terrain_under header (heights_of bytes (cells header)))

-- the terrain of a site that has none: no cell, and of what must be in range the least
abbrev pub no_terrain : Terrain
no_terrain = record { x0 = pos 0; y0 = pos 0; cell = pos (metres LEAST_SIDE); columns = 0; rows = 0; values = [] }
