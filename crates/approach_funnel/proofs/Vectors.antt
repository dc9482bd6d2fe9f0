-- Sums and differences of two products.
use Rattle.std.proofs.Common.{◌*◌, ◌^◌, ◌≤◌, ℕ, ℤ, ◌+ℤ◌, ◌-ℤ◌, ◌*ℤ◌, arith, w64, SFits}
use Rattle.std.specs.Int.RustNames.{unsigned_abs}
use Rattle.std.proofs.lemmas.Int.{ints}
use Rattle.approach_funnel.proofs.Products.{product_within}

-- they are within so much of 0
pub sum_within : (x y u v : ℤ) (n : ℕ) → unsigned_abs x ≤ n → unsigned_abs y ≤ n → unsigned_abs u ≤ 10000 → unsigned_abs v ≤ 10000 → unsigned_abs (x *ℤ u +ℤ y *ℤ v) ≤ n * 20000
sum_within x y u v n x_near y_near u_near v_near =
    let first = product_within x u n 10000 x_near u_near in
    let second = product_within y v n 10000 y_near v_near in
    omega (arith, ints)

pub difference_within : (x y u v : ℤ) (n : ℕ) → unsigned_abs x ≤ n → unsigned_abs y ≤ n → unsigned_abs u ≤ 10000 → unsigned_abs v ≤ 10000 → unsigned_abs (x *ℤ u -ℤ y *ℤ v) ≤ n * 20000
difference_within x y u v n x_near y_near u_near v_near =
    let first = product_within x u n 10000 x_near u_near in
    let second = product_within y v n 10000 y_near v_near in
    omega (arith, ints)

-- so all of their parts fit 64 bits
pub record ProductsFit (x y u v : ℤ) : Type 0 where
  pub x_fits : SFits w64 x
  pub y_fits : SFits w64 y
  pub u_fits : SFits w64 u
  pub v_fits : SFits w64 v
  pub first : SFits w64 (x *ℤ u)
  pub second : SFits w64 (y *ℤ v)
  pub sum : SFits w64 (x *ℤ u +ℤ y *ℤ v)
  pub difference : SFits w64 (x *ℤ u -ℤ y *ℤ v)

pub products_fit : (x y u v : ℤ) → unsigned_abs x ≤ 2 ^ 33 → unsigned_abs y ≤ 2 ^ 33 → unsigned_abs u ≤ 10000 → unsigned_abs v ≤ 10000 → ProductsFit x y u v
products_fit x y u v x_near y_near u_near v_near =
    let first = product_within x u (2 ^ 33) 10000 x_near u_near in
    let second = product_within y v (2 ^ 33) 10000 y_near v_near in
    record {
      x_fits = omega (arith, ints);
      y_fits = omega (arith, ints);
      u_fits = omega (arith, ints);
      v_fits = omega (arith, ints);
      first = omega (arith, ints);
      second = omega (arith, ints);
      sum = omega (arith, ints);
      difference = omega (arith, ints);
    }
