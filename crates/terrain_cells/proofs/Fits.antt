-- A small number stays what it is in 64 bits.
use Rattle.std.proofs.Common.{◌≡◌, ◌^◌, ◌<◌, ◌≤◌, ℤ, pos, ◌-ℤ◌, ◌*ℤ◌, ◌∙◌, arith, w16, w64, FitsSigned, to_z, of_z}
use Rattle.std.specs.Int.RustNames.{unsigned_abs}
use Rattle.std.proofs.lemmas.Int.{ints, to_z-of_z, fits_signed_from_abs}
use Rattle.tick_sets.specs.Inequalities.{line_at}

pub as_is : (z : ℤ) → unsigned_abs z < 2 ^ 63 → to_z w64 (of_z w64 z) ≡ z
as_is z small = to_z-of_z w64 z (fits_signed_from_abs w64 z small)

-- so do the negative of one, and the difference of two
pub negative_is : (u : ℤ) → unsigned_abs u ≤ 2 ^ 61 → to_z w64 (of_z w64 (pos 0 -ℤ to_z w64 (of_z w64 u))) ≡ pos 0 -ℤ u
negative_is u small = rw (as_is u (omega arith)) (as_is (pos 0 -ℤ u) (omega (arith, ints)))

pub difference_is : (a b : ℤ) → unsigned_abs a ≤ 2 ^ 61 → unsigned_abs b ≤ 2 ^ 62 → to_z w64 (of_z w64 (to_z w64 (of_z w64 a) -ℤ to_z w64 (of_z w64 b))) ≡ a -ℤ b
difference_is a b small_a small_b = rw (as_is a (omega arith), as_is b (omega arith)) (as_is (a -ℤ b) (omega (arith, ints)))

-- and what lies between a place and the last one before an end
pub room_is : (end place : ℤ) → unsigned_abs end ≤ 2 ^ 62 → unsigned_abs place ≤ 2 ^ 61 → to_z w64 (of_z w64 (to_z w64 (of_z w64 (to_z w64 (of_z w64 end) -ℤ pos 1)) -ℤ to_z w64 (of_z w64 place))) ≡ end -ℤ pos 1 -ℤ place
room_is end place small_end small_place = rw (as_is end (omega arith), as_is (end -ℤ pos 1) (omega (arith, ints)), as_is place (omega arith)) (as_is (end -ℤ pos 1 -ℤ place) (omega (arith, ints)))

-- the value of a line that was told of such numbers
pub value_is : (u x t r : ℤ) → FitsSigned w64 u → FitsSigned w64 x → FitsSigned w64 t → unsigned_abs r ≤ 2 ^ 33 → r ≡ line_at (to_z w64 (of_z w64 u)) (to_z w64 (of_z w64 x)) (to_z w64 (of_z w64 t)) → to_z w64 (of_z w64 r) ≡ line_at u x t
value_is u x t r fits_u fits_x fits_t small told = as_is r (omega arith) ∙ rw (to_z-of_z w64 u fits_u, to_z-of_z w64 x fits_x, to_z-of_z w64 t fits_t) at told

-- a height in 25 ft, in the units of an altitude
pub height_is : (units told h : ℤ) → units ≡ pos 30720 → told ≡ to_z w16 (of_z w16 h) → FitsSigned w16 h → to_z w64 (of_z w64 (to_z w64 (of_z w64 units) *ℤ to_z w64 (of_z w64 told))) ≡ pos 30720 *ℤ h
height_is units told h is_units is_told fits =
    let small : unsigned_abs h ≤ 2 ^ 15 = omega (arith, ints, fits) in
    rw (is_units, is_told, to_z-of_z w16 h fits, as_is (pos 30720) (omega arith), as_is h (omega arith)) (as_is (pos 30720 *ℤ h) (omega (arith, ints)))
