-- Which column, or row, has a place along an axis.
use Rattle.std.proofs.Common.{◌≡◌, refl, sym, ap, ◌∙◌, inl, inr, ℕ, ◌+◌, ◌<◌, ◌≤◌, ℤ, pos, negsuc, ◌+ℤ◌, ◌-ℤ◌, ◌*ℤ◌, ◌≤ℤ◌, ◌<ℤ◌, Bool, true, false, cond, ◌&&◌, int_le, nat_lt, Some, None, unsigned_abs, arith}
use Rattle.std.proofs.Math.Nat.{div-eq_of_lt-le, div-add-mod}
use Rattle.std.proofs.lemmas.Bool.{and_from, and_left, and_parts, and_right, cases_lt, le-ltb, lt-ltb, ltb-true}
use Rattle.std.proofs.lemmas.Int.{ints}
use Rattle.terrain_cells.specs.Cells.{cell_along, sides_from}
use Rattle.terrain_cells.specs.TooLow.{IsBetweenBorders}
use Rattle.terrain_cells.proofs.Products.{times_le}

-- ---- a test and its fact
pub le_true : (x y : ℤ) → x ≤ℤ y → int_le x y ≡ true
le_true x y h = sym (omega (arith, ints))

pub le_fact : (x y : ℤ) → int_le x y ≡ true → x ≤ℤ y
le_fact x y h = omega (arith, ints)

pub le_false : (x y : ℤ) → y <ℤ x → int_le x y ≡ false
le_false x y h = sym (omega (arith, ints))

-- ---- the quotient
sides_is : (corner side : ℤ) (q : ℕ) (place : ℤ) → pos 0 <ℤ side → IsBetweenBorders corner side q place → sides_from corner side place ≡ q
sides_is corner (pos n) q place long between =
    let from = between.from in
    let before = between.before in
    div-eq_of_lt-le {k = q} n {m = unsigned_abs (place -ℤ corner)} (omega (arith, ints)) (omega (arith, ints))
sides_is corner (negsuc n) q place long between = absurd (omega (arith, ints))

-- the borders of the quotient
sides_between : (corner side place : ℤ) → pos 0 <ℤ side → corner ≤ℤ place → IsBetweenBorders corner side (sides_from corner side place) place
sides_between corner (pos n) place long behind = let whole = div-add-mod (unsigned_abs (place -ℤ corner)) n in record {
  from = omega (arith, ints);
  before = omega (arith, ints);
}
sides_between corner (negsuc n) place long behind = absurd (omega (arith, ints))

-- ---- the column, or the row
by_tests : (a b : Bool) (q : ℕ) → (a && b) ≡ false → cond (a && b) (Some q) None ≡ None
by_tests a b q fails = rw fails refl

some_by : (a b : Bool) (q : ℕ) → (a && b) ≡ true → cond (a && b) (Some q) None ≡ Some q
some_by a b q passes = rw passes refl

pub cell_before : (corner side : ℤ) (count : ℕ) (place : ℤ) → place <ℤ corner → cell_along corner side count place ≡ None
cell_before corner side count place before = by_tests (int_le corner place) (nat_lt (sides_from corner side place) count) (sides_from corner side place) (and_left _ _ (le_false corner place before))

behind_corner : (corner side : ℤ) (q : ℕ) (place : ℤ) → pos 0 <ℤ side → (corner +ℤ side *ℤ pos q) ≤ℤ place → corner ≤ℤ place
behind_corner corner side q place long from = let h = times_le side (pos 0) (pos q) (omega (arith, ints)) (omega (arith, ints)) in omega (arith, ints)

pub cell_in : (corner side : ℤ) (count q : ℕ) (place : ℤ) → pos 0 <ℤ side → q < count → IsBetweenBorders corner side q place → cell_along corner side count place ≡ Some q
cell_in corner side count q place long few between =
    let same = sides_is corner side q place long between in
    let behind = behind_corner corner side q place long between.from in
    some_by (int_le corner place) (nat_lt (sides_from corner side place) count) (sides_from corner side place) (and_from _ _ (le_true corner place behind) (rw same (lt-ltb q count few))) ∙ ap (λ (n : ℕ). Some n) same

-- so many sides fit in before a place that is behind them
sides_many : (corner side : ℤ) (count s : ℕ) (place : ℤ) → pos 0 <ℤ side → (corner +ℤ side *ℤ pos count) ≤ℤ place → IsBetweenBorders corner side s place → count ≤ s
sides_many corner side count s place long from between = elim (cases_lt s count) [
  | inl fewer ↦
      (let h = times_le side (pos (s + 1)) (pos count) (omega (arith, ints)) (omega (arith, ints)) in
      let before = between.before in
      absurd (omega (arith, ints)))
  | inr many ↦ many
]

pub cell_behind : (corner side : ℤ) (count : ℕ) (place : ℤ) → pos 0 <ℤ side → (corner +ℤ side *ℤ pos count) ≤ℤ place → cell_along corner side count place ≡ None
cell_behind corner side count place long from =
    let between = sides_between corner side place long (behind_corner corner side count place long from) in
    by_tests (int_le corner place) (nat_lt (sides_from corner side place) count) (sides_from corner side place) (and_right _ _ (le-ltb _ count (sides_many corner side count (sides_from corner side place) place long from between)))

found_by : (a b : Bool) (s q : ℕ) → cond (a && b) (Some s) None ≡ Some q → ((a && b) ≡ true) × (s ≡ q)
found_by true true s q found = (refl, cc)
found_by true false s q found = let no : ⊥ = cc in absurd no
found_by false b s q found = let no : ⊥ = cc in absurd no

pub cell_found : (corner side : ℤ) (count q : ℕ) (place : ℤ) → pos 0 <ℤ side → cell_along corner side count place ≡ Some q → (q < count) × IsBetweenBorders corner side q place
cell_found corner side count q place long found =
    let tests = found_by (int_le corner place) (nat_lt (sides_from corner side place) count) (sides_from corner side place) q found in
    let parts = and_parts (int_le corner place) (nat_lt (sides_from corner side place) count) tests.0 in
    let between = sides_between corner side place long (le_fact corner place parts.0) in
    let few = ltb-true (sides_from corner side place) count parts.1 in
    (rw tests.1 at few, rw tests.1 at between)
