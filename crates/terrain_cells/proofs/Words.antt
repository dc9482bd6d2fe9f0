-- The definition of a hit and the words for it.
use Rattle.std.proofs.Common.{◌≡◌, ◌≢◌, ◌↔◌, refl, sym, ap, ◌∙◌, inl, inr, ℕ, ◌+◌, ◌*◌, ℤ, pos, ◌*ℤ◌, ◌<ℤ◌, Bool, true, false, true≢false, cond, Option, Some, None, IsSome, IfSome, option_map, slice_get, arith}
use Rattle.std.specs.Option.{option_and_then}
use Rattle.std.specs.Ordering.{int_eq}
use Rattle.std.proofs.lemmas.Bool.{cases_lt}
use Rattle.std.proofs.lemmas.Bool.Decides.{Decides-int_eq}
use Rattle.std.proofs.lemmas.Int.{ints}
use Rattle.site_types.specs.Looks.{look_of}
use Rattle.site_types.specs.declared.site.Set.{Set}
use Rattle.terrain_file.specs.Ranges.{IsTerrain}
use Rattle.terrain_file.specs.declared.terrain.Terrain.{Terrain}
use Rattle.terrain_file.specs.declared.terrain.TheConstants.{NO_HEIGHT}
use Rattle.tick_sets.specs.Inequalities.{line_at}
use Rattle.tick_sets.specs.Searches.{Finds, hit_from}
use Rattle.track_motion.specs.declared.motion.Motion.{Motion}
use Rattle.terrain_cells.specs.Cells.{cell_height, column_at, height_at, height_in, height_told, row_at}
use Rattle.terrain_cells.specs.Msaw.{first_too_low, is_too_low_at, is_under_at, msaw_hit}
use Rattle.terrain_cells.specs.TooLow.{HasHeight, IsFirst, IsHit, IsTooLow, IsTooLowAt}
use Rattle.terrain_cells.proofs.Lines.{lt_fact, lt_true}
use Rattle.terrain_cells.proofs.Places.{cell_found, cell_in}

long : (terrain : Terrain) → IsTerrain terrain → pos 0 <ℤ terrain.cell
long terrain is_terrain = let low = is_terrain.cell.low in omega (arith, ints)

-- ---- the height of a cell
told_by : (value h : ℤ) (none : Bool) → int_eq value NO_HEIGHT ≡ none → cond none None (Some value) ≡ Some h → (value ≡ h) × (h ≢ NO_HEIGHT)
told_by value h true is told = let no : ⊥ = cc in absurd no
told_by value h false is told =
    let same : value ≡ h = cc in
    (same, λ none. true≢false (sym ((Decides-int_eq value NO_HEIGHT).1 (same ∙ none)) ∙ is))

value_told : (value : Option ℤ) (h : ℤ) → option_and_then height_told value ≡ Some h → (value ≡ Some h) × (h ≢ NO_HEIGHT)
value_told None h told = let no : ⊥ = cc in absurd no
value_told (Some value) h told = let parts = told_by value h (int_eq value NO_HEIGHT) refl told in (ap (λ (z : ℤ). Some z) parts.0, parts.1)

height_found : (terrain : Terrain) (c r : Option ℕ) (h : ℤ) → height_in terrain c r ≡ Some h → (column row : ℕ) × ((c ≡ Some column) × (r ≡ Some row) × HasHeight terrain column row h)
height_found terrain None r h found = let no : ⊥ = cc in absurd no
height_found terrain (Some column) None h found = let no : ⊥ = cc in absurd no
height_found terrain (Some column) (Some row) h found =
    let parts = value_told (slice_get terrain.values (row * terrain.columns + column)) h found in
    (column, row, (refl, refl, record { value = parts.0; told = parts.1 }))

has_told : (h : ℤ) (none : Bool) → int_eq h NO_HEIGHT ≡ none → h ≢ NO_HEIGHT → cond none None (Some h) ≡ Some h
has_told h true is told = absurd (told ((Decides-int_eq h NO_HEIGHT).0 is))
has_told h false is told = refl

height_there : (terrain : Terrain) (column row : ℕ) (h : ℤ) → HasHeight terrain column row h → cell_height terrain column row ≡ Some h
height_there terrain column row h has = rw has.value (has_told h (int_eq h NO_HEIGHT) refl has.told)

height_is : (terrain : Terrain) (c r : Option ℕ) (column row : ℕ) (h : ℤ) → c ≡ Some column → r ≡ Some row → HasHeight terrain column row h → height_in terrain c r ≡ Some h
height_is terrain c r column row h is_c is_r has = rw (is_c, is_r) (height_there terrain column row h has)

-- ---- at a tick
under_found : (m : Motion) (height : Option ℤ) (t : ℤ) → is_under_at m height t ≡ true → (h : ℤ) × ((height ≡ Some h) × (line_at m.vz m.alt t <ℤ (pos 30720 *ℤ h)))
under_found m None t under = absurd (true≢false (sym under))
under_found m (Some h) t under = (h, (refl, lt_fact (line_at m.vz m.alt t) (pos 30720 *ℤ h) under))

under_there : (m : Motion) (height : Option ℤ) (h t : ℤ) → height ≡ Some h → line_at m.vz m.alt t <ℤ (pos 30720 *ℤ h) → is_under_at m height t ≡ true
under_there m height h t is below = rw is (lt_true (line_at m.vz m.alt t) (pos 30720 *ℤ h) below)

too_low_fact : (m : Motion) (terrain : Terrain) (t : ℤ) → IsTerrain terrain → is_too_low_at m terrain t ≡ true → IsTooLowAt m terrain t
too_low_fact m terrain t is_terrain holds =
    let x = line_at m.vx m.x t in
    let y = line_at m.vy m.y t in
    let under = under_found m (height_at terrain x y) t holds in
    let found = height_found terrain (column_at terrain x) (row_at terrain y) under.0 under.1.0 in
    let cell = found.2 in
    let along_x = cell_found terrain.x0 terrain.cell terrain.columns found.0 x (long terrain is_terrain) cell.0 in
    let along_y = cell_found terrain.y0 terrain.cell terrain.rows found.1 y (long terrain is_terrain) cell.1 in (
      found.0,
      found.1,
      under.0,
      record {
        under = record { column_there = along_x.0; row_there = along_y.0; along_x = along_x.1; along_y = along_y.1 };
        high = cell.2;
        below = under.1.1;
      },
    )

too_low_true : (m : Motion) (terrain : Terrain) (t : ℤ) → IsTerrain terrain → IsTooLowAt m terrain t → is_too_low_at m terrain t ≡ true
too_low_true m terrain t is_terrain (column, row, height, over) =
    let x = line_at m.vx m.x t in
    let y = line_at m.vy m.y t in
    let along_x : column_at terrain x ≡ Some column = cell_in terrain.x0 terrain.cell terrain.columns column x (long terrain is_terrain) over.under.column_there over.under.along_x in
    let along_y : row_at terrain y ≡ Some row = cell_in terrain.y0 terrain.cell terrain.rows row y (long terrain is_terrain) over.under.row_there over.under.along_y in
    under_there m (height_at terrain x y) height t (height_is terrain (column_at terrain x) (row_at terrain y) column row height along_x along_y over.high) over.below

-- ---- hits
abbrev pub FindsTooLow : Motion → Terrain → Set → Option ℕ → Type 0
FindsTooLow m terrain set found = Finds (λ t. is_too_low_at m terrain (pos t)) (look_of 1 set) found

is_too_low : (m : Motion) (terrain : Terrain) (set : Set) (t : ℕ) → IsTerrain terrain → FindsTooLow m terrain set (Some t) → IsTooLow m terrain set t
is_too_low m terrain set t is_terrain first = record { ahead = first.ahead; over = too_low_fact m terrain (pos t) is_terrain first.passes }

is_hit : (m : Motion) (terrain : Terrain) (set : Set) (found : Option ℕ) → IsTerrain terrain → FindsTooLow m terrain set found → IsSome (option_map (λ (t : ℕ). hit_from set.urgent (pos t)) found) → IsHit m terrain set
is_hit m terrain set None is_terrain fails some = absurd (true≢false (sym some))
is_hit m terrain set (Some t) is_terrain first some = (t, is_too_low m terrain set t is_terrain first)

has_hit : (m : Motion) (terrain : Terrain) (set : Set) (found : Option ℕ) → IsTerrain terrain → FindsTooLow m terrain set found → IsHit m terrain set → IsSome (option_map (λ (t : ℕ). hit_from set.urgent (pos t)) found)
has_hit m terrain set None is_terrain fails (t, low) = absurd (true≢false (sym (too_low_true m terrain (pos t) is_terrain low.over) ∙ fails t low.ahead))
has_hit m terrain set (Some t) is_terrain first hit = refl

first_by : (m : Motion) (terrain : Terrain) (set : Set) (found : Option ℕ) → IsTerrain terrain → FindsTooLow m terrain set found → IfSome (option_map (λ (t : ℕ). hit_from set.urgent (pos t)) found) (λ hit. IsFirst m terrain set hit.first)
first_by m terrain set None is_terrain fails = tt
first_by m terrain set (Some t) is_terrain first = (
  t,
  refl,
  record {
    too_low = is_too_low m terrain set t is_terrain first;
    least = λ s low. elim (cases_lt s t) [
      | inl before ↦ absurd (true≢false (sym (too_low_true m terrain (pos s) is_terrain low.over) ∙ first.earlier s before))
      | inr later ↦ later
    ];
  },
)

abbrev pub Searches : Type 0
Searches = (m : Motion) (terrain : Terrain) (set : Set) → FindsTooLow m terrain set (first_too_low m terrain (look_of 1 set))

pub hit_said : Searches → (m : Motion) (terrain : Terrain) (set : Set) → IsTerrain terrain → IsSome (msaw_hit m terrain set) ↔ IsHit m terrain set
hit_said finds m terrain set is_terrain = (
  is_hit m terrain set (first_too_low m terrain (look_of 1 set)) is_terrain (finds m terrain set),
  has_hit m terrain set (first_too_low m terrain (look_of 1 set)) is_terrain (finds m terrain set),
)

pub first_said : Searches → (m : Motion) (terrain : Terrain) (set : Set) → IsTerrain terrain → IfSome (msaw_hit m terrain set) (λ hit. IsFirst m terrain set hit.first)
first_said finds m terrain set is_terrain = first_by m terrain set (first_too_low m terrain (look_of 1 set)) is_terrain (finds m terrain set)
