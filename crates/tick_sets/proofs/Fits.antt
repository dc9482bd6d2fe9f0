-- That the products of the inequalities fit 128 bits, and what a quotient is.
use Rattle.std.proofs.Common.{◌≡◌, sym, subst, to_z, of_z, ℕ, ◌*◌, ◌-◌, ◌^◌, ◌≤◌, ◌<◌, ℤ, pos, negsuc, ◌+ℤ◌, ◌-ℤ◌, ◌*ℤ◌, ◌≤ℤ◌, ◌<ℤ◌, arith, SFits, unsigned_abs, int_div}
use Rattle.std.proofs.lemmas.Int.{ints, by_lt_z, to_z-of_z, unsigned_abs-mul}
use Rattle.std.proofs.lemmas.Nat.{mul-le, div-add-mod', mod_below}
use Rattle.tick_sets.specs.Inequalities.{IsLine, IsLook, IsParabola, line_at}
use Rattle.tick_sets.specs.Steps.{IsFraction, IsFractionBefore, IsQuotient, discriminant}
use Rattle.tick_sets.proofs.Products.{times_le}
use lib.Dec.{T}
use lib.Signed.{non_neg}
use mir.Val.{Fits}
use mir.Syntax.{w128}

-- a product is within the product of the bounds
pub product_within : (a b : ℤ) (m n : ℕ) → unsigned_abs a ≤ m → unsigned_abs b ≤ n → unsigned_abs (a *ℤ b) ≤ m * n
product_within a b m n h k = let P : ℕ → Type 0 = λ x. x ≤ m * n in subst P (sym (unsigned_abs-mul a b)) (mul-le (unsigned_abs a) (unsigned_abs b) m n h k)

pub record DiscriminantFits (a b c : ℤ) : Type 0 where
  pub square : SFits w128 (b *ℤ b)
  pub product : SFits w128 (a *ℤ c)
  pub whole : SFits w128 (discriminant a b c)
  pub bound : discriminant a b c <ℤ pos (2 ^ 103)

pub discriminant_fits : (a b c : ℤ) → IsParabola a b c → DiscriminantFits a b c
discriminant_fits a b c range =
    let square = product_within b b (2 ^ 51 - 1) (2 ^ 51) (omega (arith, ints)) (omega (arith, ints)) in
    let product = product_within a c (2 ^ 34) (2 ^ 68 - 1) (omega (arith, ints)) (omega (arith, ints)) in
    record { square = omega (arith, ints); product = omega (arith, ints); whole = omega (arith, ints); bound = omega (arith, ints) }

-- computed in 128 bits, it is what it is
pub discriminant_is : (a b c : ℤ) → IsParabola a b c → to_z w128 (of_z w128 (to_z w128 (of_z w128 (to_z w128 (of_z w128 b) *ℤ to_z w128 (of_z w128 b))) -ℤ to_z w128 (of_z w128 (to_z w128 (of_z w128 a) *ℤ to_z w128 (of_z w128 c))))) ≡ discriminant a b c
discriminant_is a b c range =
    let fits_a : SFits w128 a = omega (arith, ints) in
    let fits_b : SFits w128 b = omega (arith, ints) in
    let fits_c : SFits w128 c = omega (arith, ints) in
    let fits : DiscriminantFits a b c = discriminant_fits a b c range in
    let square = fits.square in
    let product = fits.product in
    let whole = fits.whole in
    simp to_z-of_z

-- one less than a positive number is a natural one
pub less_is_natural : (square : ℤ) → pos 0 <ℤ square → square <ℤ pos (2 ^ 103) → T (non_neg (to_z w128 (of_z w128 (square -ℤ pos 1)))) × Fits w128 (unsigned_abs (to_z w128 (of_z w128 (square -ℤ pos 1))))
less_is_natural square low high =
    let fits : SFits w128 (square -ℤ pos 1) = omega (arith, ints) in
    let natural : square -ℤ pos 1 ≡ pos (unsigned_abs (square -ℤ pos 1)) = omega (arith, ints) in
    simp to_z-of_z (rw natural tt, omega (arith, ints))

pub record LineFits (a b l : ℤ) : Type 0 where
  pub product : SFits w128 (a *ℤ l)
  pub whole : SFits w128 (line_at a b l)

pub line_fits : (a b l : ℤ) → IsLine a b → IsLook l → LineFits a b l
line_fits a b l line look =
    let product = product_within a l (2 ^ 100) (2 ^ 16) (omega (arith, ints)) (omega (arith, ints)) in
    record { product = omega (arith, ints); whole = omega (arith, ints) }

-- a quotient that is rounded down
next_above : (n d : ℤ) → pos 0 ≤ℤ n → pos 0 <ℤ d → n <ℤ (d *ℤ (int_div n d +ℤ pos 1))
next_above (pos n) (pos d) low up = let h : 0 < d = omega (arith, ints) in omega (arith, ints, div-add-mod' n d, mod_below n d h)
next_above (pos n) (negsuc d) low up = absurd (omega (arith, ints))
next_above (negsuc n) d low up = absurd (omega (arith, ints))

at_most : (n d : ℤ) → pos 0 ≤ℤ n → pos 0 <ℤ d → (pos 0 ≤ℤ int_div n d) × ((d *ℤ int_div n d) ≤ℤ n)
at_most (pos n) (pos d) low up = (omega (arith, ints), omega (arith, ints, div-add-mod' n d))
at_most (pos n) (negsuc d) low up = absurd (omega (arith, ints))
at_most (negsuc n) d low up = absurd (omega (arith, ints))

pub quotient_of : (n d : ℤ) → IsFraction n d → IsQuotient n d (int_div n d)
quotient_of n d fraction =
    let found = at_most n d fraction.dividend_low fraction.divisor_low in
    record { low = found.0; at_most = found.1; next_above = next_above n d fraction.dividend_low fraction.divisor_low }

-- one that is a tick before l
pub quotient_before : (n d l : ℤ) → IsFractionBefore n d l → int_div n d <ℤ l
quotient_before n d l h =
    let q = quotient_of n d h.fraction in
    by_lt_z (int_div n d) l
    (λ before. before)
    (λ after. let k = times_le d l (int_div n d) (omega (arith, ints)) after in absurd (omega (arith, ints)))
