-- Bands of places along an axis that have one column, or one row, or none.
use Rattle.std.proofs.Common.{◌≡◌, ℕ, ◌+◌, ◌<◌, ◌≤◌, ◌^◌, ℤ, pos, ◌≤ℤ◌, ◌<ℤ◌, Some, None, unsigned_abs, arith}
use Rattle.std.proofs.lemmas.Int.{ints}
use Rattle.terrain_cells.specs.Stays.{IsBandOf, border_of}
use Rattle.terrain_cells.specs.declared.axis.Axis.{Axis}
use Rattle.terrain_cells.proofs.Places.{cell_behind, cell_in}

long : (axis : Axis) → pos 0 <ℤ axis.side
long axis = let low = axis.range.side_long.low in omega (arith, ints)

pub band_inside : (axis : Axis) (place low high : ℤ) (index : ℕ) → low ≡ border_of axis index → high ≡ border_of axis (index + 1) → unsigned_abs low ≤ 2 ^ 62 → unsigned_abs high ≤ 2 ^ 62 → index < axis.count → border_of axis index ≤ℤ place → place <ℤ border_of axis (index + 1) → IsBandOf axis place (record { low = low; high = high; index = Some index })
band_inside axis place low high index is_low is_high low_near high_near few from before = record {
  wide = record { low = low_near; high = high_near };
  has = record { from = rw is_low from; before = rw is_high before };
  same = λ other within. cell_in axis.corner axis.side axis.count index other (long axis) few (record { from = rw is_low at within.from; before = rw is_high at within.before });
}

pub band_behind : (axis : Axis) (place low high : ℤ) (index : ℕ) → low ≡ border_of axis index → high ≡ pos (2 ^ 62) → unsigned_abs low ≤ 2 ^ 62 → index ≤ axis.count → axis.count ≤ index → border_of axis index ≤ℤ place → unsigned_abs place ≤ 2 ^ 33 → IsBandOf axis place (record { low = low; high = high; index = None })
band_behind axis place low high index is_low is_high low_near few many from near =
    let all : index ≡ axis.count = omega arith in
    record {
      wide = record { low = low_near; high = rw is_high (omega arith) };
      has = record { from = rw is_low from; before = rw is_high (omega (arith, ints)) };
      same = λ other within. cell_behind axis.corner axis.side axis.count other (long axis) (rw (is_low, all) at within.from);
    }
