-- Distances and speeds of two tracks: their products and sums in 64 bits, and the squares of distances.
use Rattle.std.proofs.Common.{◌≡◌, ap, sym, ◌∙◌, ℕ, ◌+◌, ◌*◌, ◌^◌, ◌≤◌, ℤ, pos, negsuc, ◌*ℤ◌, ◌+ℤ◌, ◌-ℤ◌, neg_ℤ, ◌≤ℤ◌, false, refl, arith, w64, FitsSigned, to_z, of_z}
use mir.Syntax.{w128}
use Rattle.std.specs.Prelude.{int_lt}
use Rattle.std.specs.Int.RustNames.{unsigned_abs}
use Rattle.std.proofs.Math.Nat.{mul-le-mul}
use Rattle.std.proofs.lemmas.Int.{ints, to_z-of_z, to_z_pos, unsigned_abs-mul, fits_signed_from_abs}
use Rattle.tick_sets.specs.Plane.{scalar_product, squared_length}
use Rattle.stca_fine.specs.Relative.{IsDrift, IsLimit}

-- a small number stays what it is in 64 bits, and in 128
pub as_is : (z : ℤ) → unsigned_abs z ≤ 2 ^ 62 → to_z w64 (of_z w64 z) ≡ z
as_is z small = to_z-of_z w64 z (fits_signed_from_abs w64 z (omega arith))

pub as_is_wide : (z : ℤ) → unsigned_abs z ≤ 2 ^ 126 → to_z w128 (of_z w128 z) ≡ z
as_is_wide z small = to_z-of_z w128 z (fits_signed_from_abs w128 z (omega arith))

-- so does the difference of two
pub difference_is : (a b : ℤ) → unsigned_abs a ≤ 2 ^ 32 → unsigned_abs b ≤ 2 ^ 32 → to_z w64 (of_z w64 (to_z w64 (of_z w64 a) -ℤ to_z w64 (of_z w64 b))) ≡ a -ℤ b
difference_is a b small_a small_b = rw (as_is a (omega arith), as_is b (omega arith)) (as_is (a -ℤ b) (omega (arith, ints)))

-- ---- sums of two products
pub scalar_bound : (x y u v : ℤ) → IsDrift x u → IsDrift y v → unsigned_abs (scalar_product x y u v) ≤ 2 ^ 50
scalar_bound x y u v along_x along_y =
    let first : unsigned_abs (x *ℤ u) ≤ 2 ^ 33 * 2 ^ 16 = rw unsigned_abs-mul (mul-le-mul along_x.apart along_x.speed) in
    let second : unsigned_abs (y *ℤ v) ≤ 2 ^ 33 * 2 ^ 16 = rw unsigned_abs-mul (mul-le-mul along_y.apart along_y.speed) in
    omega (arith, ints)

product_is : (x u : ℤ) → IsDrift x u → to_z w64 (of_z w64 (to_z w64 (of_z w64 x) *ℤ to_z w64 (of_z w64 u))) ≡ x *ℤ u
product_is x u drift =
    let apart = drift.apart in
    let speed = drift.speed in
    let bound : unsigned_abs (x *ℤ u) ≤ 2 ^ 33 * 2 ^ 16 = rw unsigned_abs-mul (mul-le-mul apart speed) in
    rw (as_is x (omega arith), as_is u (omega arith)) (as_is (x *ℤ u) (omega arith))

pub scalar_fits : (x y u v : ℤ) → IsDrift x u → IsDrift y v →
    FitsSigned w64 (to_z w64 (of_z w64 (to_z w64 (of_z w64 x) *ℤ to_z w64 (of_z w64 u))) +ℤ to_z w64 (of_z w64 (to_z w64 (of_z w64 y) *ℤ to_z w64 (of_z w64 v))))
scalar_fits x y u v along_x along_y =
    let bound = scalar_bound x y u v along_x along_y in
    rw (product_is x u along_x, product_is y v along_y) (fits_signed_from_abs w64 _ (omega arith))

pub scalar_is : (x y u v : ℤ) → IsDrift x u → IsDrift y v →
    to_z w64 (of_z w64 (to_z w64 (of_z w64 (to_z w64 (of_z w64 x) *ℤ to_z w64 (of_z w64 u))) +ℤ to_z w64 (of_z w64 (to_z w64 (of_z w64 y) *ℤ to_z w64 (of_z w64 v))))) ≡ scalar_product x y u v
scalar_is x y u v along_x along_y =
    let bound = scalar_bound x y u v along_x along_y in
    rw (product_is x u along_x, product_is y v along_y) (as_is (scalar_product x y u v) (omega arith))

-- a speed is short enough to be a distance
pub drift_of_speed : (x u : ℤ) → IsDrift x u → IsDrift u u
drift_of_speed x u drift = let speed = drift.speed in record { apart = omega arith; speed = speed }

pub growth_bound : (u v : ℤ) → IsDrift u u → IsDrift v v → unsigned_abs (squared_length u v) ≤ 2 ^ 33
growth_bound u v along_x along_y =
    let first : unsigned_abs (u *ℤ u) ≤ 2 ^ 16 * 2 ^ 16 = rw unsigned_abs-mul (mul-le-mul along_x.speed along_x.speed) in
    let second : unsigned_abs (v *ℤ v) ≤ 2 ^ 16 * 2 ^ 16 = rw unsigned_abs-mul (mul-le-mul along_y.speed along_y.speed) in
    omega (arith, ints)

-- ---- squares
pub square_is : (x : ℤ) → x *ℤ x ≡ pos (unsigned_abs x * unsigned_abs x)
square_is (pos a) = refl
square_is (negsuc a) = refl

-- the square of a distance is never below 0
pub squared_is : (x y : ℤ) → pos (unsigned_abs (squared_length x y)) ≡ squared_length x y
squared_is x y = rw (square_is x, square_is y) refl

pub squares_are : (x y : ℤ) → unsigned_abs x * unsigned_abs x + unsigned_abs y * unsigned_abs y ≡ unsigned_abs (squared_length x y)
squares_are x y = rw (square_is x, square_is y) refl

-- a distance along one axis that isn't below a limit makes one that isn't
pub far_along_x : (x y limit : ℤ) → pos 0 ≤ℤ limit → int_lt (pos (unsigned_abs x)) limit ≡ false → int_lt (squared_length x y) (limit *ℤ limit) ≡ false
far_along_x x y (pos l) low far =
    let long : l ≤ unsigned_abs x = omega (arith, ints) in
    let squares : l * l ≤ unsigned_abs x * unsigned_abs x = mul-le-mul long long in
    rw (square_is x, square_is y) (sym (omega (arith, ints)))
far_along_x x y (negsuc l) low far = absurd (omega (arith, ints))

turned : (x y : ℤ) → squared_length y x ≡ squared_length x y
turned x y = omega (arith, ints)

pub far_along_y : (x y limit : ℤ) → pos 0 ≤ℤ limit → int_lt (pos (unsigned_abs y)) limit ≡ false → int_lt (squared_length x y) (limit *ℤ limit) ≡ false
far_along_y x y limit low far = ap (λ (z : ℤ). int_lt z (limit *ℤ limit)) (turned y x) ∙ far_along_x y x limit low far

-- ---- a square less another, in 128 bits
pub square_small : (limit : ℤ) → IsLimit limit → unsigned_abs limit * unsigned_abs limit ≤ 2 ^ 64
square_small limit small =
    let low = small.low in
    let high = small.high in
    let size : unsigned_abs limit ≤ 2 ^ 32 = omega (arith, ints) in
    mul-le-mul size size

pub less_square : (start squared limit : ℤ) (square : ℕ) → IsLimit limit → start ≡ squared → pos 0 ≤ℤ start → start ≤ℤ pos (2 ^ 67) → square ≡ unsigned_abs limit * unsigned_abs limit →
    to_z w128 (of_z w128 (to_z w128 (of_z w128 start) -ℤ to_z w128 square)) ≡ squared -ℤ limit *ℤ limit
less_square start squared limit square small value low high square_value =
    let bound = square_small limit small in
    let size : square ≤ 2 ^ 64 = omega arith in
    let product = square_is limit in
    rw (as_is_wide start (omega (arith, ints)), to_z_pos w128 square (omega arith)) (as_is_wide (start -ℤ pos square) (omega (arith, ints)) ∙ rw (value, product, square_value) refl)

-- ---- what two lines start from and fall by, which tell a vertical distance below a limit
pub negated_is : (v : ℤ) → unsigned_abs v ≤ 2 ^ 16 → to_z w128 (of_z w128 (to_z w64 (of_z w64 (pos 0 -ℤ to_z w64 (of_z w64 v))))) ≡ neg_ℤ v
negated_is v small = rw (as_is v (omega arith), as_is (pos 0 -ℤ v) (omega (arith, ints))) (as_is_wide (pos 0 -ℤ v) (omega (arith, ints)) ∙ omega (arith, ints))

pub room_below : (limit z : ℤ) → IsLimit limit → unsigned_abs z ≤ 2 ^ 33 →
    to_z w128 (of_z w128 (to_z w64 (of_z w64 (to_z w64 (of_z w64 (to_z w64 (of_z w64 limit) -ℤ pos 1)) -ℤ to_z w64 (of_z w64 z))))) ≡ limit -ℤ pos 1 -ℤ z
room_below limit z small near =
    let low = small.low in
    let high = small.high in
    rw (as_is limit (omega (arith, ints)), as_is (limit -ℤ pos 1) (omega (arith, ints)), as_is z (omega arith), as_is (limit -ℤ pos 1 -ℤ z) (omega (arith, ints))) (as_is_wide (limit -ℤ pos 1 -ℤ z) (omega (arith, ints)))

pub room_above : (limit z : ℤ) → IsLimit limit → unsigned_abs z ≤ 2 ^ 33 →
    to_z w128 (of_z w128 (to_z w64 (of_z w64 (to_z w64 (of_z w64 (to_z w64 (of_z w64 limit) -ℤ pos 1)) +ℤ to_z w64 (of_z w64 z))))) ≡ limit -ℤ pos 1 +ℤ z
room_above limit z small near =
    let low = small.low in
    let high = small.high in
    rw (as_is limit (omega (arith, ints)), as_is (limit -ℤ pos 1) (omega (arith, ints)), as_is z (omega arith), as_is (limit -ℤ pos 1 +ℤ z) (omega (arith, ints))) (as_is_wide (limit -ℤ pos 1 +ℤ z) (omega (arith, ints)))

pub speed_is : (v : ℤ) → unsigned_abs v ≤ 2 ^ 16 → to_z w128 (of_z w128 (to_z w64 (of_z w64 v))) ≡ v
speed_is v small = rw (as_is v (omega arith)) (as_is_wide v (omega arith))
