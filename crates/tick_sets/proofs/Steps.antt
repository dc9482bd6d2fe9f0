-- Where the multiples of a step reach a bound, and where they stay within it.
use Rattle.std.proofs.Common.{◌≡◌, ℤ, pos, ◌+ℤ◌, ◌-ℤ◌, ◌*ℤ◌, ◌^◌, ◌≤ℤ◌, ◌<ℤ◌, arith, lit<, w64, to_z, of_z, SFits}
use Rattle.std.proofs.lemmas.Int.{ints, by_lt_z, to_z-of_z, fits_signed_mul}
use Rattle.tick_sets.specs.Steps.{IsQuotient, IsWalk, Reaches, StaysWithin}
use Rattle.tick_sets.proofs.Products.{times_le}

-- the last multiple fits 64 bits
pub product_is : (step l : ℤ) → IsWalk step l → SFits w64 step → SFits w64 l → to_z w64 (of_z w64 (to_z w64 (of_z w64 step) *ℤ to_z w64 (of_z w64 l))) ≡ step *ℤ l
product_is step l walk fits_step fits_l =
    let fits : SFits w64 (step *ℤ l) = fits_signed_mul w64 step l (2 ^ 35) (2 ^ 16) (omega (arith, ints)) (omega (arith, ints)) (lit< tt) in
    simp to_z-of_z

-- at the tick after the quotient of what is one below the bound
pub reaches_after : (step bound l divisor less q t : ℤ) → IsWalk step l → divisor ≡ step → less ≡ bound -ℤ pos 1 → t ≡ q +ℤ pos 1 → IsQuotient less divisor q → bound ≤ℤ (step *ℤ l) → Reaches step bound l t
reaches_after step bound l divisor less q t walk divisor_is less_is t_is quotient inside =
    let at_most = rw divisor_is at quotient.at_most in
    let next_above = rw divisor_is at quotient.next_above in
    record {
      not_before = omega (arith, ints);
      not_after = by_lt_z q l (λ before. omega (arith, ints)) (λ after. let h : (step *ℤ l) ≤ℤ (step *ℤ q) = times_le step l q walk.low after in absurd (omega (arith, ints)));
      below_before = λ positive. let back : t -ℤ pos 1 ≡ q = omega (arith, ints) in rw back (omega (arith, ints));
      reached = λ before. rw t_is (omega (arith, ints));
    }

-- up to the quotient of the bound
pub stays_until : (step bound l divisor dividend t : ℤ) → IsWalk step l → divisor ≡ step → dividend ≡ bound → IsQuotient dividend divisor t → bound <ℤ (step *ℤ l) → StaysWithin step bound l t
stays_until step bound l divisor dividend t walk divisor_is dividend_is quotient beyond =
    let at_most = rw divisor_is at quotient.at_most in
    let next_above = rw divisor_is at quotient.next_above in
    record {
      not_before = omega (arith, ints);
      not_after = by_lt_z l t (λ after. let h : (step *ℤ l) ≤ℤ (step *ℤ t) = times_le step l t walk.low (omega (arith, ints)) in absurd (omega (arith, ints))) (λ before. before);
      within = λ begun. omega (arith, ints);
      above_after = λ before. omega (arith, ints);
    }

-- nowhere, where the last multiple is below the bound
pub reaches_never : (step bound l t : ℤ) → IsWalk step l → t ≡ l +ℤ pos 1 → (step *ℤ l) <ℤ bound → Reaches step bound l t
reaches_never step bound l t walk t_is below = record {
  not_before = omega (arith, ints);
  not_after = omega (arith, ints);
  below_before = λ positive. let back : t -ℤ pos 1 ≡ l = omega (arith, ints) in rw back below;
  reached = λ inside. absurd (omega (arith, ints));
}

-- over all of the look-ahead, where the last multiple is within the bound
pub stays_whole : (step bound l t : ℤ) → IsWalk step l → t ≡ l → (step *ℤ l) ≤ℤ bound → StaysWithin step bound l t
stays_whole step bound l t walk t_is inside = record {
  not_before = omega (arith, ints);
  not_after = omega (arith, ints);
  within = λ begun. rw t_is inside;
  above_after = λ before. absurd (omega (arith, ints));
}
