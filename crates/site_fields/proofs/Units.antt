-- Numbers in other units: that they fit 64 bits, and keep their order.
use Rattle.std.proofs.Common.{◌≡◌, ℕ, ◌^◌, ◌<◌, ◌≤◌, ℤ, pos, negsuc, ◌*ℤ◌, ◌≤ℤ◌, arith, mul-le-mul_left, lit<, w32, w64, SFits, FitsSigned, to_z, of_z}
use Rattle.std.proofs.lemmas.Int.{ints, to_z-of_z, fits_signed_mul}
use Rattle.site_types.specs.declared.limits.Limits.{Limits}
use Rattle.site_types.specs.Limits.{IsWithin, IsIn}

product_fits : (number : ℤ) (units : ℕ) → SFits w32 number → units < 2 ^ 16 → FitsSigned w64 (number *ℤ pos units)
product_fits number units short few = fits_signed_mul w64 number (pos units) (2 ^ 31) (2 ^ 16) (omega (arith, ints)) (omega (arith, ints)) (lit< tt)

as_is : (z : ℤ) → FitsSigned w64 z → to_z w64 (of_z w64 z) ≡ z
as_is z fits = to_z-of_z w64 z fits

pub times_fits : (number : ℤ) (units : ℕ) → SFits w32 number → units < 2 ^ 16 → FitsSigned w64 (to_z w64 (of_z w64 number) *ℤ to_z w64 (of_z w64 (pos units)))
times_fits number units short few =
    rw (as_is number (omega (arith, ints)), as_is (pos units) (omega (arith, ints))) (product_fits number units short few)

pub times_is : (number : ℤ) (units : ℕ) → SFits w32 number → units < 2 ^ 16 → to_z w64 (of_z w64 (to_z w64 (of_z w64 number) *ℤ to_z w64 (of_z w64 (pos units)))) ≡ number *ℤ pos units
times_is number units short few =
    rw (as_is number (omega (arith, ints)), as_is (pos units) (omega (arith, ints))) (as_is _ (product_fits number units short few))

times_le : (a b : ℤ) (n : ℕ) → a ≤ℤ b → (a *ℤ pos n) ≤ℤ (b *ℤ pos n)
times_le (pos a) (pos b) n h = omega (arith, ints, mul-le-mul_left n (let g : a ≤ b = omega (arith, ints) in g))
times_le (pos a) (negsuc b) n h = absurd (omega (arith, ints))
times_le (negsuc a) (pos b) n h = omega (arith, ints)
times_le (negsuc a) (negsuc b) n h = omega (arith, ints, mul-le-mul_left n (let g : b ≤ a = omega (arith, ints) in g))

pub times_in : (limits : Limits) (number : ℤ) (units : ℕ) → IsWithin limits number → IsIn limits (pos units) (number *ℤ pos units)
times_in limits number units inside = record {
  low = times_le limits.low number units inside.low;
  high = times_le number limits.high units inside.high;
}
