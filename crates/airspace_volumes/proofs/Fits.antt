-- What the code computes in 64 and in 128 bits is what it is.
use Rattle.std.proofs.Common.{◌≡◌, ◌∙◌, ◌*◌, ◌^◌, ◌≤◌, ℤ, pos, ◌+ℤ◌, ◌-ℤ◌, ◌*ℤ◌, arith, w64, to_z, of_z}
use Rattle.std.specs.Int.RustNames.{unsigned_abs}
use Rattle.std.proofs.Math.Nat.{mul-le-mul}
use Rattle.std.proofs.lemmas.Int.{ints, to_z-of_z, unsigned_abs-mul, fits_signed_from_abs}
use Rattle.tick_sets.specs.Inequalities.{IsLook, line_at}
use Rattle.airspace_volumes.specs.Bounds.{IsCourse}
use mir.Syntax.{w128}

-- a small number stays what it is in 64 bits, and in 128
pub as_is : (z : ℤ) → unsigned_abs z ≤ 2 ^ 62 → to_z w64 (of_z w64 z) ≡ z
as_is z small = to_z-of_z w64 z (fits_signed_from_abs w64 z (omega arith))

as_is_wide : (z : ℤ) → unsigned_abs z ≤ 2 ^ 126 → to_z w128 (of_z w128 z) ≡ z
as_is_wide z small = to_z-of_z w128 z (fits_signed_from_abs w128 z (omega arith))

-- so do a rate and its negative, and the difference of two heights, in 128 bits
pub wide_is : (z : ℤ) → unsigned_abs z ≤ 2 ^ 40 → to_z w128 (of_z w128 (to_z w64 (of_z w64 z))) ≡ z
wide_is z small = rw (as_is z (omega arith)) (as_is_wide z (omega arith))

pub wide_neg_is : (z : ℤ) → unsigned_abs z ≤ 2 ^ 40 → to_z w128 (of_z w128 (to_z w64 (of_z w64 (pos 0 -ℤ to_z w64 (of_z w64 z))))) ≡ pos 0 -ℤ z
wide_neg_is z small = rw (as_is z (omega arith), as_is (pos 0 -ℤ z) (omega (arith, ints))) (as_is_wide (pos 0 -ℤ z) (omega (arith, ints)))

pub wide_difference_is : (a b : ℤ) → unsigned_abs a ≤ 2 ^ 40 → unsigned_abs b ≤ 2 ^ 40 → to_z w128 (of_z w128 (to_z w64 (of_z w64 (to_z w64 (of_z w64 a) -ℤ to_z w64 (of_z w64 b))))) ≡ a -ℤ b
wide_difference_is a b small_a small_b = rw (as_is a (omega arith), as_is b (omega arith), as_is (a -ℤ b) (omega (arith, ints))) (as_is_wide (a -ℤ b) (omega (arith, ints)))

-- ---- the place at the last tick
pub end_is : (x u l : ℤ) → IsCourse x u → IsLook l → to_z w64 (of_z w64 (to_z w64 (of_z w64 x) +ℤ to_z w64 (of_z w64 (to_z w64 (of_z w64 u) *ℤ to_z w64 (of_z w64 l))))) ≡ line_at u x l
end_is x u l course look =
    let near = course.place_near in
    let slow = course.slow in
    let low = look.low in
    let high = look.high in
    let ticks : unsigned_abs l ≤ 2 ^ 16 = omega (arith, ints) in
    let product : unsigned_abs (u *ℤ l) ≤ 2 ^ 15 * 2 ^ 16 = rw unsigned_abs-mul (mul-le-mul slow ticks) in
    rw (as_is x (omega arith), as_is u (omega arith), as_is l (omega arith), as_is (u *ℤ l) (omega arith)) (as_is (x +ℤ u *ℤ l) (omega (arith, ints)) ∙ omega (arith, ints))
