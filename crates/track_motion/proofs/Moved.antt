-- Where a value is after some ticks: that it fits 64 bits, and how far it may come.
use Rattle.std.proofs.Common.{◌≡◌, ℕ, ◌+◌, ◌*◌, ◌^◌, ◌≤◌, ◌<◌, ℤ, pos, ◌*ℤ◌, ◌+ℤ◌, arith, w64, FitsSigned, to_z, of_z}
use Rattle.std.specs.Int.RustNames.{unsigned_abs}
use Rattle.std.proofs.Math.Nat.{mul-le-mul}
use Rattle.std.proofs.lemmas.Int.{ints, to_z-of_z, unsigned_abs-mul, fits_signed_from_abs}
use Rattle.track_motion.specs.Motions.{moved_on}

-- what is told and how it moves, as a track tells them in 32 and 16 bits
pub record IsTold (units : ℕ) (value speed : ℤ) (age : ℕ) : Type 0 where
  pub few_units : units < 2 ^ 16
  pub short : unsigned_abs value ≤ 2 ^ 31
  pub slow : unsigned_abs speed ≤ 2 ^ 15
  pub young : age < 2 ^ 16

place_bound : (units : ℕ) (value : ℤ) → unsigned_abs (pos units *ℤ value) ≤ units * unsigned_abs value
place_bound units value = rw unsigned_abs-mul (omega arith)

way_bound : (units : ℕ) (value speed : ℤ) (age : ℕ) → IsTold units value speed age → unsigned_abs (speed *ℤ pos age) ≤ 2 ^ 31
way_bound units value speed age told =
    let young : age ≤ 2 ^ 16 = (let y = told.young in omega arith) in
    rw unsigned_abs-mul (mul-le-mul told.slow young)

-- no further than it was told, and 2 ^ 31 on
pub moved_bound : (units : ℕ) (value speed : ℤ) (age : ℕ) → IsTold units value speed age → unsigned_abs (moved_on units value speed (pos age)) ≤ units * unsigned_abs value + 2 ^ 31
moved_bound units value speed age told =
    let place = place_bound units value in
    let way = way_bound units value speed age told in
    omega (arith, ints)

-- the parts and the whole in 64 bits are what they are
as_is : (z : ℤ) → unsigned_abs z ≤ 2 ^ 62 → to_z w64 (of_z w64 z) ≡ z
as_is z small = to_z-of_z w64 z (fits_signed_from_abs w64 z (omega arith))

place_is : (units : ℕ) (value speed : ℤ) (age : ℕ) → IsTold units value speed age → to_z w64 (of_z w64 (to_z w64 (of_z w64 (pos units)) *ℤ to_z w64 (of_z w64 value))) ≡ pos units *ℤ value
place_is units value speed age told =
    let few : units ≤ 2 ^ 16 = (let f = told.few_units in omega arith) in
    let short = told.short in
    let bound : unsigned_abs (pos units *ℤ value) ≤ 2 ^ 16 * 2 ^ 31 = rw unsigned_abs-mul (mul-le-mul few short) in
    rw (as_is (pos units) (omega (arith, ints)), as_is value (omega arith)) (as_is _ (omega arith))

way_is : (units : ℕ) (value speed : ℤ) (age : ℕ) → IsTold units value speed age → to_z w64 (of_z w64 (to_z w64 (of_z w64 speed) *ℤ to_z w64 (of_z w64 (pos age)))) ≡ speed *ℤ pos age
way_is units value speed age told =
    let young = told.young in
    let slow = told.slow in
    let bound = way_bound units value speed age told in
    rw (as_is speed (omega arith), as_is (pos age) (omega (arith, ints))) (as_is _ (omega arith))

whole_small : (units : ℕ) (value speed : ℤ) (age : ℕ) → IsTold units value speed age → unsigned_abs (moved_on units value speed (pos age)) ≤ 2 ^ 48
whole_small units value speed age told =
    let few : units ≤ 2 ^ 16 = (let f = told.few_units in omega arith) in
    let place : unsigned_abs (pos units *ℤ value) ≤ 2 ^ 16 * 2 ^ 31 = rw unsigned_abs-mul (mul-le-mul few told.short) in
    let way = way_bound units value speed age told in
    omega (arith, ints)

pub sum_fits : (units : ℕ) (value speed : ℤ) (age : ℕ) → IsTold units value speed age →
    FitsSigned w64 (to_z w64 (of_z w64 (to_z w64 (of_z w64 (pos units)) *ℤ to_z w64 (of_z w64 value))) +ℤ to_z w64 (of_z w64 (to_z w64 (of_z w64 speed) *ℤ to_z w64 (of_z w64 (pos age)))))
sum_fits units value speed age told =
    let small = whole_small units value speed age told in
    rw (place_is units value speed age told, way_is units value speed age told) (fits_signed_from_abs w64 _ (omega arith))

pub moved_is : (units : ℕ) (value speed : ℤ) (age : ℕ) → IsTold units value speed age →
    to_z w64 (of_z w64 (to_z w64 (of_z w64 (to_z w64 (of_z w64 (pos units)) *ℤ to_z w64 (of_z w64 value))) +ℤ to_z w64 (of_z w64 (to_z w64 (of_z w64 speed) *ℤ to_z w64 (of_z w64 (pos age)))))) ≡ moved_on units value speed (pos age)
moved_is units value speed age told =
    let small = whole_small units value speed age told in
    rw (place_is units value speed age told, way_is units value speed age told) (as_is _ (omega arith))
