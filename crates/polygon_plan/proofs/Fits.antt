-- What the code computes in 64 and in 128 bits is what it is.
use Rattle.std.proofs.Common.{◌≡◌, ◌∙◌, refl, ◌*◌, ◌^◌, ◌≤◌, ℤ, pos, ◌-ℤ◌, ◌*ℤ◌, FitsSigned, arith, w64, to_z, of_z}
use Rattle.std.specs.Int.RustNames.{unsigned_abs}
use Rattle.std.proofs.Math.Nat.{mul-le-mul}
use Rattle.std.proofs.lemmas.Int.{ints, to_z-of_z, unsigned_abs-mul, fits_signed_from_abs}
use Rattle.tick_sets.specs.Inequalities.{IsLine}
use Rattle.track_motion.specs.declared.motion.Motion.{Motion}
use Rattle.track_motion.specs.Motions.{InRange}
use Rattle.polygon_plan.specs.Ranges.{IsPoint}
use Rattle.polygon_plan.specs.Sides.{cross_product}
use Rattle.polygon_plan.proofs.Products.{product_wide}
use mir.Syntax.{w128}

-- a small number stays what it is in 64 bits, and in 128
pub as_is : (z : ℤ) → unsigned_abs z ≤ 2 ^ 62 → to_z w64 (of_z w64 z) ≡ z
as_is z small = to_z-of_z w64 z (fits_signed_from_abs w64 z (omega arith))

pub as_is_wide : (z : ℤ) → unsigned_abs z ≤ 2 ^ 126 → to_z w128 (of_z w128 z) ≡ z
as_is_wide z small = to_z-of_z w128 z (fits_signed_from_abs w128 z (omega arith))

-- so does the difference of two
pub difference_is : (a b : ℤ) → unsigned_abs a ≤ 2 ^ 40 → unsigned_abs b ≤ 2 ^ 40 → to_z w64 (of_z w64 (to_z w64 (of_z w64 a) -ℤ to_z w64 (of_z w64 b))) ≡ a -ℤ b
difference_is a b small_a small_b = rw (as_is a (omega arith), as_is b (omega arith)) (as_is (a -ℤ b) (omega (arith, ints)))

-- ---- the cross product of vectors of numbers of 64 bits
pub record Four (x y u v : ℤ) : Type 0 where
  pub x_fits : FitsSigned w64 x
  pub y_fits : FitsSigned w64 y
  pub u_fits : FitsSigned w64 u
  pub v_fits : FitsSigned w64 v

wide : (z : ℤ) → FitsSigned w64 z → to_z w128 (of_z w128 z) ≡ z
wide z fits = let small : FitsSigned w128 z = omega (arith, ints) in to_z-of_z w128 z small

product : (a b : ℤ) → FitsSigned w64 a → FitsSigned w64 b → to_z w128 (of_z w128 (to_z w128 (of_z w128 a) *ℤ to_z w128 (of_z w128 b))) ≡ a *ℤ b
product a b fits_a fits_b =
    let size = product_wide a b fits_a fits_b in
    let low = size.low in
    let high = size.high in
    let fits : FitsSigned w128 (a *ℤ b) = omega (arith, ints) in
    rw (wide a fits_a, wide b fits_b) (to_z-of_z w128 (a *ℤ b) fits)

cross_in : (x y u v : ℤ) → Four x y u v → FitsSigned w128 (cross_product x y u v)
cross_in x y u v four =
    let first = product_wide x v four.x_fits four.v_fits in
    let first_low = first.low in
    let first_high = first.high in
    let second = product_wide u y four.u_fits four.y_fits in
    let second_low = second.low in
    let second_high = second.high in
    omega (arith, ints)

pub cross_fits : (x y u v : ℤ) → Four x y u v → FitsSigned w128 (to_z w128 (of_z w128 (to_z w128 (of_z w128 x) *ℤ to_z w128 (of_z w128 v))) -ℤ to_z w128 (of_z w128 (to_z w128 (of_z w128 u) *ℤ to_z w128 (of_z w128 y))))
cross_fits x y u v four = rw (product x v four.x_fits four.v_fits, product u y four.u_fits four.y_fits) (cross_in x y u v four)

pub cross_is : (x y u v : ℤ) → Four x y u v → to_z w128 (of_z w128 (to_z w128 (of_z w128 (to_z w128 (of_z w128 x) *ℤ to_z w128 (of_z w128 v))) -ℤ to_z w128 (of_z w128 (to_z w128 (of_z w128 u) *ℤ to_z w128 (of_z w128 y))))) ≡ cross_product x y u v
cross_is x y u v four = rw (product x v four.x_fits four.v_fits, product u y four.u_fits four.y_fits) (to_z-of_z w128 (cross_product x y u v) (cross_in x y u v four))

-- ---- of short vectors it is small
pub record AreShort (x y u v : ℤ) : Type 0 where
  pub x_short : unsigned_abs x ≤ 2 ^ 34
  pub y_short : unsigned_abs y ≤ 2 ^ 34
  pub u_short : unsigned_abs u ≤ 2 ^ 34
  pub v_short : unsigned_abs v ≤ 2 ^ 34

pub cross_small : (x y u v : ℤ) → AreShort x y u v → unsigned_abs (cross_product x y u v) ≤ 2 ^ 69
cross_small x y u v short =
    let first : unsigned_abs (x *ℤ v) ≤ 2 ^ 34 * 2 ^ 34 = rw unsigned_abs-mul (mul-le-mul short.x_short short.v_short) in
    let second : unsigned_abs (u *ℤ y) ≤ 2 ^ 34 * 2 ^ 34 = rw unsigned_abs-mul (mul-le-mul short.u_short short.y_short) in
    omega (arith, ints)

-- ---- of the way along an edge and the way from its end to any place
pub record IsWay (a b way : ℤ) : Type 0 where
  pub is : way ≡ a -ℤ b
  pub size : unsigned_abs way ≤ 2 ^ 64

pub way_is : (a b way : ℤ) → FitsSigned w64 a → unsigned_abs b ≤ 2 ^ 40 → way ≡ to_z w64 (of_z w64 a) -ℤ to_z w64 (of_z w64 b) → IsWay a b way
way_is a b way fits small told =
    let is : way ≡ a -ℤ b = told ∙ rw (to_z-of_z w64 a fits, as_is b (omega arith)) refl in
    record { is = is; size = omega (arith, ints) }

pub along_is : (a b way : ℤ) → unsigned_abs a ≤ 2 ^ 32 → unsigned_abs b ≤ 2 ^ 32 → way ≡ to_z w64 (of_z w64 a) -ℤ to_z w64 (of_z w64 b) → (way ≡ a -ℤ b) × (unsigned_abs way ≤ 2 ^ 34)
along_is a b way small_a small_b told =
    let is : way ≡ a -ℤ b = told ∙ rw (as_is a (omega arith), as_is b (omega arith)) refl in
    (is, omega (arith, ints))

far_product : (a b : ℤ) → unsigned_abs a ≤ 2 ^ 64 → unsigned_abs b ≤ 2 ^ 34 → unsigned_abs (a *ℤ b) ≤ 2 ^ 64 * 2 ^ 34
far_product a b far short = rw unsigned_abs-mul (mul-le-mul far short)

near_product : (a b : ℤ) → unsigned_abs a ≤ 2 ^ 34 → unsigned_abs b ≤ 2 ^ 64 → unsigned_abs (a *ℤ b) ≤ 2 ^ 34 * 2 ^ 64
near_product a b short far = rw unsigned_abs-mul (mul-le-mul short far)

pub far_fits : (a b : ℤ) → unsigned_abs a ≤ 2 ^ 64 → unsigned_abs b ≤ 2 ^ 34 → FitsSigned w128 (to_z w128 (of_z w128 a) *ℤ to_z w128 (of_z w128 b))
far_fits a b far short =
    let size = far_product a b far short in
    rw (as_is_wide a (omega arith), as_is_wide b (omega arith)) (fits_signed_from_abs w128 (a *ℤ b) (omega arith))

pub near_fits : (a b : ℤ) → unsigned_abs a ≤ 2 ^ 34 → unsigned_abs b ≤ 2 ^ 64 → FitsSigned w128 (to_z w128 (of_z w128 a) *ℤ to_z w128 (of_z w128 b))
near_fits a b short far =
    let size = near_product a b short far in
    rw (as_is_wide a (omega arith), as_is_wide b (omega arith)) (fits_signed_from_abs w128 (a *ℤ b) (omega arith))

far_is : (a b : ℤ) → unsigned_abs a ≤ 2 ^ 64 → unsigned_abs b ≤ 2 ^ 34 → to_z w128 (of_z w128 (to_z w128 (of_z w128 a) *ℤ to_z w128 (of_z w128 b))) ≡ a *ℤ b
far_is a b far short =
    let size = far_product a b far short in
    rw (as_is_wide a (omega arith), as_is_wide b (omega arith)) (as_is_wide (a *ℤ b) (omega arith))

near_is : (a b : ℤ) → unsigned_abs a ≤ 2 ^ 34 → unsigned_abs b ≤ 2 ^ 64 → to_z w128 (of_z w128 (to_z w128 (of_z w128 a) *ℤ to_z w128 (of_z w128 b))) ≡ a *ℤ b
near_is a b short far =
    let size = near_product a b short far in
    rw (as_is_wide a (omega arith), as_is_wide b (omega arith)) (as_is_wide (a *ℤ b) (omega arith))

pub record AreFar (x y u v : ℤ) : Type 0 where
  pub x_far : unsigned_abs x ≤ 2 ^ 64
  pub y_far : unsigned_abs y ≤ 2 ^ 64
  pub u_short : unsigned_abs u ≤ 2 ^ 34
  pub v_short : unsigned_abs v ≤ 2 ^ 34

pub far_cross_small : (x y u v : ℤ) → AreFar x y u v → unsigned_abs (cross_product x y u v) ≤ 2 ^ 99
far_cross_small x y u v far =
    let first = far_product x v far.x_far far.v_short in
    let second = near_product u y far.u_short far.y_far in
    omega (arith, ints)

pub far_cross_fits : (x y u v : ℤ) → AreFar x y u v → FitsSigned w128 (to_z w128 (of_z w128 (to_z w128 (of_z w128 x) *ℤ to_z w128 (of_z w128 v))) -ℤ to_z w128 (of_z w128 (to_z w128 (of_z w128 u) *ℤ to_z w128 (of_z w128 y))))
far_cross_fits x y u v far =
    let size = far_cross_small x y u v far in
    rw (far_is x v far.x_far far.v_short, near_is u y far.u_short far.y_far) (fits_signed_from_abs w128 (cross_product x y u v) (omega arith))

pub far_cross_is : (x y u v : ℤ) → AreFar x y u v → to_z w128 (of_z w128 (to_z w128 (of_z w128 (to_z w128 (of_z w128 x) *ℤ to_z w128 (of_z w128 v))) -ℤ to_z w128 (of_z w128 (to_z w128 (of_z w128 u) *ℤ to_z w128 (of_z w128 y))))) ≡ cross_product x y u v
far_cross_is x y u v far =
    let size = far_cross_small x y u v far in
    rw (far_is x v far.x_far far.v_short, near_is u y far.u_short far.y_far) (as_is_wide (cross_product x y u v) (omega arith))

-- ---- the lines of an edge, in range, at a motion in range
pub record AreLines (m : Motion) (from to : ℤ × ℤ) : Type 0 where
  pub slope : unsigned_abs (cross_product m.vx m.vy (to.0 -ℤ from.0) (to.1 -ℤ from.1)) ≤ 2 ^ 69
  pub start : unsigned_abs (cross_product (m.x -ℤ from.0) (m.y -ℤ from.1) (to.0 -ℤ from.0) (to.1 -ℤ from.1)) ≤ 2 ^ 69

pub are_lines : (m : Motion) (from to : ℤ × ℤ) → InRange m → IsPoint from → IsPoint to → AreLines m from to
are_lines m from to range from_near to_near =
    let m_x = range.x in
    let m_y = range.y in
    let m_vx = range.vx in
    let m_vy = range.vy in
    let from_x = from_near.x in
    let from_y = from_near.y in
    let to_x = to_near.x in
    let to_y = to_near.y in
    record {
      slope = cross_small m.vx m.vy (to.0 -ℤ from.0) (to.1 -ℤ from.1) (record { x_short = omega (arith, ints); y_short = omega (arith, ints); u_short = omega (arith, ints); v_short = omega (arith, ints) });
      start = cross_small (m.x -ℤ from.0) (m.y -ℤ from.1) (to.0 -ℤ from.0) (to.1 -ℤ from.1) (record { x_short = omega (arith, ints); y_short = omega (arith, ints); u_short = omega (arith, ints); v_short = omega (arith, ints) });
    }

-- ---- what the code makes of them
pub neg_fits : (r : ℤ) → unsigned_abs r ≤ 2 ^ 69 → FitsSigned w128 (pos 0 -ℤ to_z w128 (of_z w128 r))
neg_fits r small = rw (as_is_wide r (omega arith)) (fits_signed_from_abs w128 (pos 0 -ℤ r) (omega (arith, ints)))

pub neg_is : (r : ℤ) → unsigned_abs r ≤ 2 ^ 69 → to_z w128 (of_z w128 (pos 0 -ℤ to_z w128 (of_z w128 r))) ≡ pos 0 -ℤ r
neg_is r small = rw (as_is_wide r (omega arith)) (as_is_wide (pos 0 -ℤ r) (omega (arith, ints)))

pub less_fits : (r : ℤ) → unsigned_abs r ≤ 2 ^ 69 → FitsSigned w128 (to_z w128 (of_z w128 (pos 0 -ℤ to_z w128 (of_z w128 r))) -ℤ pos 1)
less_fits r small = rw (neg_is r small) (fits_signed_from_abs w128 (pos 0 -ℤ r -ℤ pos 1) (omega (arith, ints)))

pub less_is : (r : ℤ) → unsigned_abs r ≤ 2 ^ 69 → to_z w128 (of_z w128 (to_z w128 (of_z w128 (pos 0 -ℤ to_z w128 (of_z w128 r))) -ℤ pos 1)) ≡ pos 0 -ℤ r -ℤ pos 1
less_is r small = rw (neg_is r small) (as_is_wide (pos 0 -ℤ r -ℤ pos 1) (omega (arith, ints)))

pub line_in : (a b : ℤ) → unsigned_abs a ≤ 2 ^ 69 → unsigned_abs b ≤ 2 ^ 69 → IsLine (pos 0 -ℤ a) (pos 0 -ℤ b -ℤ pos 1)
line_in a b small_a small_b = record { slope = omega (arith, ints); start = omega (arith, ints) }

-- ---- heights over ends and under them, in 128 bits
pub wide_is : (z : ℤ) → unsigned_abs z ≤ 2 ^ 40 → to_z w128 (of_z w128 (to_z w64 (of_z w64 z))) ≡ z
wide_is z small = rw (as_is z (omega arith)) (as_is_wide z (omega arith))

pub wide_neg_is : (z : ℤ) → unsigned_abs z ≤ 2 ^ 40 → to_z w128 (of_z w128 (to_z w64 (of_z w64 (pos 0 -ℤ to_z w64 (of_z w64 z))))) ≡ pos 0 -ℤ z
wide_neg_is z small = rw (as_is z (omega arith), as_is (pos 0 -ℤ z) (omega (arith, ints))) (as_is_wide (pos 0 -ℤ z) (omega (arith, ints)))

pub wide_difference_is : (a b : ℤ) → unsigned_abs a ≤ 2 ^ 40 → unsigned_abs b ≤ 2 ^ 40 → to_z w128 (of_z w128 (to_z w64 (of_z w64 (to_z w64 (of_z w64 a) -ℤ to_z w64 (of_z w64 b))))) ≡ a -ℤ b
wide_difference_is a b small_a small_b = rw (difference_is a b small_a small_b) (as_is_wide (a -ℤ b) (omega (arith, ints)))

pub wide_room_is : (high y : ℤ) → unsigned_abs high ≤ 2 ^ 40 → unsigned_abs y ≤ 2 ^ 40 → to_z w128 (of_z w128 (to_z w64 (of_z w64 (to_z w64 (of_z w64 (to_z w64 (of_z w64 high) -ℤ pos 1)) -ℤ to_z w64 (of_z w64 y))))) ≡ high -ℤ pos 1 -ℤ y
wide_room_is high y small_high small_y = rw (as_is high (omega arith), as_is (high -ℤ pos 1) (omega (arith, ints)), as_is y (omega arith), as_is (high -ℤ pos 1 -ℤ y) (omega (arith, ints))) (as_is_wide (high -ℤ pos 1 -ℤ y) (omega (arith, ints)))
