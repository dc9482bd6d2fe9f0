-- What the code computes in 64 and in 128 bits is what it is.
use Rattle.std.proofs.Common.{◌≡◌, refl, ◌∙◌, ℕ, inl, inr, zero, suc, ◌*◌, ◌^◌, ◌≤◌, ℤ, pos, negsuc, ◌-ℤ◌, ◌*ℤ◌, neg_ℤ, arith, w64, SFits, to_z, of_z}
use Rattle.std.specs.Int.RustNames.{unsigned_abs}
use Rattle.std.proofs.lemmas.Bool.{cases_lt}
use Rattle.std.proofs.lemmas.Bool.Decides.{nat_tests}
use Rattle.std.proofs.lemmas.Int.{ints, to_z-of_z, fits_signed_from_abs}
use Rattle.std.proofs.lemmas.Nat.{mul-le}
use Rattle.site_types.specs.Ranges.{IsFunnel}
use Rattle.site_types.specs.declared.funnel.Funnel.{Funnel}
use Rattle.site_types.specs.declared.units.TheConstants.{LENGTH_UNITS_PER_METRE}
use Rattle.tick_sets.specs.Plane.{squared_length}
use Rattle.tick_sets.specs.Roots.{root}
use Rattle.approach_funnel.specs.declared.units.TheConstants.{RUN_LENGTH, RUN_SHARE}
use Rattle.approach_funnel.proofs.Products.{product_within}
use mir.Syntax.{w128}

-- a small number stays what it is in 64 bits, and in 128
pub as_is : (z : ℤ) → unsigned_abs z ≤ 2 ^ 62 → to_z w64 (of_z w64 z) ≡ z
as_is z small = to_z-of_z w64 z (fits_signed_from_abs w64 z (omega arith))

pub as_is_wide : (z : ℤ) → unsigned_abs z ≤ 2 ^ 126 → to_z w128 (of_z w128 z) ≡ z
as_is_wide z small = to_z-of_z w128 z (fits_signed_from_abs w128 z (omega arith))

-- ---- the length of the landing direction
root_squared : (n : ℕ) → root n * root n ≤ n
unfolding root
root_squared zero = omega arith
root_squared (suc n) = let below = root_squared n in grind (arith, nat_tests)

pub root_small : (n : ℕ) → n ≤ 200000000 → root n ≤ 2 ^ 14
root_small n small =
    elim (cases_lt (2 ^ 14) (root n)) [
      | inl large ↦ (let square = mul-le (2 ^ 14) (2 ^ 14) (root n) (root n) (omega arith) (omega arith) in let least = root_squared n in absurd (omega arith))
      | inr not_large ↦ not_large
    ]

pub direction : (f : Funnel) → IsFunnel f → (unsigned_abs f.dx ≤ 10000) × (unsigned_abs f.dy ≤ 10000)
direction f range =
    let x_low = range.dx.low in
    let x_high = range.dx.high in
    let y_low = range.dy.low in
    let y_high = range.dy.high in
    (omega (arith, ints), omega (arith, ints))

-- ---- negatives and differences, in 64 bits
pub negated_is : (z : ℤ) → unsigned_abs z ≤ 2 ^ 62 → to_z w64 (of_z w64 (pos 0 -ℤ to_z w64 (of_z w64 z))) ≡ neg_ℤ z
negated_is z small = rw (as_is z small) (as_is (pos 0 -ℤ z) (omega (arith, ints)) ∙ omega (arith, ints))

pub difference_is : (a b : ℤ) → unsigned_abs a ≤ 2 ^ 32 → unsigned_abs b ≤ 2 ^ 32 → to_z w64 (of_z w64 (to_z w64 (of_z w64 a) -ℤ to_z w64 (of_z w64 b))) ≡ a -ℤ b
difference_is a b small_a small_b = rw (as_is a (omega arith), as_is b (omega arith)) (as_is (a -ℤ b) (omega (arith, ints)))

-- ---- numbers of 64 bits in 128
pub wide_is : (z : ℤ) → unsigned_abs z ≤ 2 ^ 62 → to_z w128 (of_z w128 (to_z w64 (of_z w64 z))) ≡ z
wide_is z small = rw (as_is z small) (as_is_wide z (omega arith))

-- the square of a vector's length is never below 0
square_is : (x : ℤ) → x *ℤ x ≡ pos (unsigned_abs x * unsigned_abs x)
square_is (pos a) = refl
square_is (negsuc a) = refl

pub squared_is : (x y : ℤ) → squared_length x y ≡ pos (unsigned_abs (squared_length x y))
squared_is x y = rw (square_is x, square_is y) refl

pub length_small : (f : Funnel) → IsFunnel f → root (unsigned_abs (squared_length f.dx f.dy)) ≤ 2 ^ 14
length_small f range =
    let near = direction f range in
    let x = product_within f.dx f.dx 10000 10000 near.0 near.0 in
    let y = product_within f.dy f.dy 10000 10000 near.1 near.1 in
    root_small (unsigned_abs (squared_length f.dx f.dy)) (omega (arith, ints))

-- ---- the base of a side, and the weight of a slope
pub base_within : (length half : ℤ) → unsigned_abs length ≤ 2 ^ 14 → unsigned_abs half ≤ 20000 → unsigned_abs (RUN_LENGTH *ℤ length *ℤ half) ≤ 2 ^ 52
base_within length half short narrow =
    let run : unsigned_abs (RUN_LENGTH *ℤ length) ≤ 5120000 * 2 ^ 14 = omega (arith, ints) in
    let base = product_within (RUN_LENGTH *ℤ length) half (5120000 * 2 ^ 14) 20000 run narrow in
    omega arith

pub base_is : (length half : ℤ) → unsigned_abs length ≤ 2 ^ 14 → unsigned_abs half ≤ 20000 → to_z w64 (of_z w64 (to_z w64 (of_z w64 (RUN_LENGTH *ℤ to_z w64 (of_z w64 length))) *ℤ to_z w64 (of_z w64 half))) ≡ RUN_LENGTH *ℤ length *ℤ half
base_is length half short narrow =
    let base = base_within length half short narrow in
    rw (as_is length (omega arith), as_is (RUN_LENGTH *ℤ length) (omega (arith, ints)), as_is half (omega arith)) (as_is (RUN_LENGTH *ℤ length *ℤ half) (omega arith))

pub base_fits : (length half : ℤ) → unsigned_abs length ≤ 2 ^ 14 → unsigned_abs half ≤ 20000 → SFits w64 (to_z w64 (of_z w64 (RUN_LENGTH *ℤ to_z w64 (of_z w64 length))) *ℤ to_z w64 (of_z w64 half))
base_fits length half short narrow =
    let base = base_within length half short narrow in
    rw (as_is length (omega arith), as_is (RUN_LENGTH *ℤ length) (omega (arith, ints)), as_is half (omega arith)) (omega (arith, ints))

pub weight_is : (length : ℤ) → unsigned_abs length ≤ 2 ^ 14 → to_z w64 (of_z w64 (RUN_SHARE *ℤ to_z w64 (of_z w64 length))) ≡ RUN_SHARE *ℤ length
weight_is length short = rw (as_is length (omega arith)) (as_is (RUN_SHARE *ℤ length) (omega (arith, ints)))

-- ---- the reach of a funnel
pub reach_is : (reach length : ℤ) → unsigned_abs reach ≤ 100000 → unsigned_abs length ≤ 2 ^ 14 → to_z w64 (of_z w64 (to_z w64 (of_z w64 (LENGTH_UNITS_PER_METRE *ℤ to_z w64 (of_z w64 reach))) *ℤ to_z w64 (of_z w64 length))) ≡ LENGTH_UNITS_PER_METRE *ℤ reach *ℤ length
reach_is reach length near short =
    let units : unsigned_abs (LENGTH_UNITS_PER_METRE *ℤ reach) ≤ 51200000 = omega (arith, ints) in
    let product = product_within (LENGTH_UNITS_PER_METRE *ℤ reach) length 51200000 (2 ^ 14) units short in
    rw (as_is reach (omega arith), as_is (LENGTH_UNITS_PER_METRE *ℤ reach) (omega arith), as_is length (omega arith)) (as_is (LENGTH_UNITS_PER_METRE *ℤ reach *ℤ length) (omega arith))

pub reach_fits : (reach length : ℤ) → unsigned_abs reach ≤ 100000 → unsigned_abs length ≤ 2 ^ 14 → SFits w64 (to_z w64 (of_z w64 (LENGTH_UNITS_PER_METRE *ℤ to_z w64 (of_z w64 reach))) *ℤ to_z w64 (of_z w64 length))
reach_fits reach length near short =
    let units : unsigned_abs (LENGTH_UNITS_PER_METRE *ℤ reach) ≤ 51200000 = omega (arith, ints) in
    let product = product_within (LENGTH_UNITS_PER_METRE *ℤ reach) length 51200000 (2 ^ 14) units short in
    rw (as_is reach (omega arith), as_is (LENGTH_UNITS_PER_METRE *ℤ reach) (omega arith), as_is length (omega arith)) (omega (arith, ints))
