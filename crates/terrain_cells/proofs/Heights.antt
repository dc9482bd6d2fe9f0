-- Heights of cells, and altitudes below them.
use Rattle.std.proofs.Common.{◌≡◌, refl, ℕ, ◌+◌, ◌*◌, ℤ, pos, ◌*ℤ◌, ◌≤ℤ◌, Bool, true, false, cond, List, All, slice_get, Option, Some, None, IfSome, arith}
use Rattle.std.specs.Option.{option_and_then}
use Rattle.std.specs.Ordering.{int_eq}
use Rattle.std.proofs.lemmas.Int.{ints}
use Rattle.std.proofs.lemmas.Option.{get_or_from_slice_get, slice_get_within}
use Rattle.tick_sets.specs.Inequalities.{IsLook, line_at}
use Rattle.terrain_file.specs.declared.terrain.Terrain.{Terrain}
use Rattle.terrain_file.specs.declared.terrain.TheConstants.{NO_HEIGHT}
use Rattle.track_motion.specs.declared.motion.Motion.{Motion}
use Rattle.terrain_cells.specs.Cells.{column_at, height_at, height_in, height_told, row_at}
use Rattle.terrain_cells.specs.Msaw.{is_below_at, is_too_low_at, is_under_at}
use Rattle.terrain_cells.specs.Walks.{FindsFrom, StartsAt}
use Rattle.terrain_cells.proofs.Lines.{lt_false, lt_not}
use Rattle.terrain_cells.proofs.Products.{times_le}

-- a height that there is
pub found_under : (m : Motion) (height : Option ℤ) (h from to : ℤ) (found : Option ℤ) → height ≡ Some h → FindsFrom (is_below_at m h) from to found → FindsFrom (is_under_at m height) from to found
found_under m height h from to found there finds = rw there finds

-- ---- no cell is higher than the greatest value
abbrev pub IsAtMost : ℤ → Option ℤ → Type 0
IsAtMost highest height = IfSome height (λ h. h ≤ℤ highest)

told_at_most : (highest value : ℤ) (none : Bool) → value ≤ℤ highest → IsAtMost highest (cond none None (Some value))
told_at_most highest value true low = tt
told_at_most highest value false low = low

value_at_most : (highest : ℤ) (value : Option ℤ) → IsAtMost highest value → IsAtMost highest (option_and_then height_told value)
value_at_most highest None low = tt
value_at_most highest (Some value) low = told_at_most highest value (int_eq value NO_HEIGHT) low

read_at_most : (values : List ℤ) (highest : ℤ) (i : ℕ) (read : Option ℤ) → All (λ value. value ≤ℤ highest) values → slice_get values i ≡ read → IsAtMost highest read
read_at_most values highest i None all is = tt
read_at_most values highest i (Some value) all is =
    rw (get_or_from_slice_get values i value (pos 0) is) at (all i (pos 0) (slice_get_within values i value is))

pub height_at_most : (terrain : Terrain) (highest : ℤ) (column row : Option ℕ) → All (λ value. value ≤ℤ highest) terrain.values → IsAtMost highest (height_in terrain column row)
height_at_most terrain highest None row all = tt
height_at_most terrain highest (Some c) None all = tt
height_at_most terrain highest (Some c) (Some r) all =
    value_at_most highest (slice_get terrain.values (r * terrain.columns + c)) (read_at_most terrain.values highest (r * terrain.columns + c) (slice_get terrain.values (r * terrain.columns + c)) all refl)

over_all : (m : Motion) (height : Option ℤ) (highest t : ℤ) → IsAtMost highest height → is_below_at m highest t ≡ false → is_under_at m height t ≡ false
over_all m None highest t low over = refl
over_all m (Some h) highest t low over =
    let above = lt_not (line_at m.vz m.alt t) (pos 30720 *ℤ highest) over in
    let less = times_le (pos 30720) h highest (omega (arith, ints)) low in
    lt_false (line_at m.vz m.alt t) (pos 30720 *ℤ h) (omega (arith, ints))

pub over_highest : (m : Motion) (terrain : Terrain) (highest t : ℤ) → All (λ value. value ≤ℤ highest) terrain.values → is_below_at m highest t ≡ false → is_too_low_at m terrain t ≡ false
over_highest m terrain highest t all over = over_all m (height_at terrain (line_at m.vx m.x t) (line_at m.vy m.y t)) highest t (height_at_most terrain highest (column_at terrain (line_at m.vx m.x t)) (row_at terrain (line_at m.vy m.y t)) all) over

-- so the track is too low nowhere before it is below that
pub start_under : (m : Motion) (terrain : Terrain) (highest look : ℤ) (found : Option ℤ) → All (λ value. value ≤ℤ highest) terrain.values → IsLook look → FindsFrom (is_below_at m highest) (pos 0) look found → StartsAt (is_too_low_at m terrain) look found
start_under m terrain highest look None all is_look never = λ t low high. over_highest m terrain highest t all (never t low high)
start_under m terrain highest look (Some start) all is_look first =
    let end = is_look.high in
    let from = first.not_before in
    let to = first.not_after in
    record {
      ticks = record { first = record { low = from; high = omega (arith, ints) }; last = is_look; order = to };
      earlier = λ t low before. over_highest m terrain highest t all (first.earlier t low before);
    }
