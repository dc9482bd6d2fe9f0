-- Where a parabola is below 0.
use Rattle.std.proofs.Common.{◌≡◌, refl, sym, ap, ℕ, zero, suc, ◌+◌, ◌*◌, ◌^◌, ◌≤◌, ◌<◌, ℤ, pos, negsuc, ◌+ℤ◌, ◌-ℤ◌, ◌*ℤ◌, neg_ℤ, ◌≤ℤ◌, ◌<ℤ◌, arith, mul-le-mul}
use Rattle.std.proofs.lemmas.Int.{ints, by_lt_z}
use Rattle.std.proofs.lemmas.Nat.{mul-le}
use Rattle.tick_sets.specs.Inequalities.{parabola_at}
use Rattle.tick_sets.specs.Steps.{discriminant, IsNearVertex, IsRootBelow, StaysAbove}
use Rattle.tick_sets.specs.Ticks.{AreTicksWhere}
use Rattle.tick_sets.specs.declared.Ticks.{Ticks}
use Rattle.tick_sets.specs.declared.Ticks.TheVariants.{Empty}
use Rattle.tick_sets.proofs.Lines.{AreAbove, AreBetween}
use Rattle.tick_sets.proofs.Where.{where_none, where_same}
use Rattle.tick_sets.proofs.Products.{times_le, times_assoc, triple_is, spread, products}

-- ---- squares
square_low : (x : ℤ) → pos 0 ≤ℤ (x *ℤ x)
square_low (pos n) = omega (arith, ints)
square_low (negsuc n) = omega (arith, ints)

square_near : (x : ℤ) (r : ℕ) → neg_ℤ (pos r) ≤ℤ x → x ≤ℤ pos r → (x *ℤ x) ≤ℤ pos (r * r)
square_near (pos n) r low high = let h : n ≤ r = omega (arith, ints) in omega (arith, ints, mul-le-mul h h)
square_near (negsuc n) r low high = let h : suc n ≤ r = omega (arith, ints) in omega (arith, ints, mul-le-mul h h)

square_far_above : (x : ℤ) (r : ℕ) → pos r ≤ℤ x → pos (r * r) ≤ℤ (x *ℤ x)
square_far_above (pos n) r h = let k : r ≤ n = omega (arith, ints) in omega (arith, ints, mul-le-mul k k)
square_far_above (negsuc n) r h = absurd (omega (arith, ints))

square_far_below : (x : ℤ) (r : ℕ) → x ≤ℤ neg_ℤ (pos r) → pos (r * r) ≤ℤ (x *ℤ x)
square_far_below (pos n) zero h = omega (arith, ints)
square_far_below (pos n) (suc r) h = absurd (omega (arith, ints))
square_far_below (negsuc n) r h = let k : r ≤ suc n = omega (arith, ints) in omega (arith, ints, mul-le-mul k k)

-- ---- without a root
pub above_from_start : (a b c t : ℤ) → pos 0 ≤ℤ a → pos 0 ≤ℤ b → pos 0 ≤ℤ c → pos 0 ≤ℤ t → pos 0 ≤ℤ parabola_at a b c t
above_from_start a b c t a_low b_low c_low low =
    let slope = times_le a (pos 0) t a_low low in
    let curve = times_le (a *ℤ t) (pos 0) t (omega (arith, ints)) low in
    let line = times_le (pos 2 *ℤ b) (pos 0) t (omega (arith, ints)) low in
    omega (arith, ints)

pub above_to_end : (a b c l t slope : ℤ) → pos 0 ≤ℤ a → slope ≡ a *ℤ l +ℤ b → slope ≤ℤ pos 0 → pos 0 ≤ℤ ((slope +ℤ b) *ℤ l +ℤ c) → t ≤ℤ l → pos 0 ≤ℤ parabola_at a b c t
above_to_end a b c l t slope low slope_is falls end before =
    let chord : (a *ℤ (l +ℤ t)) ≤ℤ (a *ℤ (l +ℤ l)) = times_le a (l +ℤ t) (l +ℤ l) low (omega (arith, ints)) in
    let parts = simp spread at chord in
    let at_l = simp spread at (rw slope_is at end) in
    let under : (a *ℤ (l +ℤ t) +ℤ pos 2 *ℤ b) ≤ℤ pos 0 = simp spread (omega (arith, ints)) in
    let product = simp spread at (times_le (l -ℤ t) (a *ℤ (l +ℤ t) +ℤ pos 2 *ℤ b) (pos 0) (omega (arith, ints)) under) in
    simp spread (omega (arith, products))

-- ---- by the root of the discriminant
completed : (a b c t u : ℤ) → u ≡ a *ℤ t → a *ℤ parabola_at a b c t ≡ (u +ℤ b) *ℤ (u +ℤ b) -ℤ discriminant a b c
completed a b c t u u_is =
    let left : a *ℤ (u *ℤ t) ≡ u *ℤ u = omega (arith, products, ap (λ (z : ℤ). u *ℤ z) u_is, triple_is u a t, triple_is a u t) in
    let middle : a *ℤ (b *ℤ t) ≡ b *ℤ u = omega (arith, products, ap (λ (z : ℤ). b *ℤ z) u_is, triple_is b a t, triple_is a b t) in
    let start : a *ℤ parabola_at a b c t ≡ a *ℤ (u *ℤ t +ℤ pos 2 *ℤ (b *ℤ t) +ℤ c) = ap (λ (z : ℤ). a *ℤ z) (rw (← u_is) (ap (λ (z : ℤ). u *ℤ t +ℤ z +ℤ c) (times_assoc (pos 2) b t))) in
    rw start (simp spread (omega (arith, products)))

-- the value and a times it are below 0 together
scaled_below : (a v : ℤ) → pos 0 <ℤ a → v <ℤ pos 0 → (a *ℤ v) <ℤ pos 0
scaled_below a v up h = let k = times_le a v (negsuc 0) (omega (arith, ints)) (omega (arith, ints)) in omega (arith, ints)

below_scaled : (a v : ℤ) → pos 0 <ℤ a → (a *ℤ v) <ℤ pos 0 → v <ℤ pos 0
below_scaled a v up h = by_lt_z v (pos 0) (λ k. k) (λ k. let l = times_le a (pos 0) v (omega (arith, ints)) k in absurd (omega (arith, ints)))

-- where a t + b is within the root, and only there
square_within : (x r square : ℤ) → pos 0 ≤ℤ r → (r *ℤ r) <ℤ square → neg_ℤ r ≤ℤ x → x ≤ℤ r → (x *ℤ x) <ℤ square
square_within x (pos r) square low root from to = let h = square_near x r from to in omega (arith, ints)
square_within x (negsuc r) square low root from to = absurd (omega (arith, ints))

within_square : (x r square : ℤ) → pos 0 ≤ℤ r → square ≤ℤ ((r +ℤ pos 1) *ℤ (r +ℤ pos 1)) → (x *ℤ x) <ℤ square → (neg_ℤ r ≤ℤ x) × (x ≤ℤ r)
within_square x (pos r) square low root h = (
  by_lt_z x (neg_ℤ (pos r)) (λ before. let far = square_far_below x (r + 1) (omega (arith, ints)) in absurd (omega (arith, ints))) (λ after. after),
  by_lt_z (pos r) x (λ after. let far = square_far_above x (r + 1) (omega (arith, ints)) in absurd (omega (arith, ints))) (λ before. before),
)
within_square x (negsuc r) square low root h = absurd (omega (arith, ints))

-- ---- near the vertex
abbrev pub AreNear : ℤ → ℤ → ℤ → ℤ → Ticks → Type 0
AreNear a b c l ticks = AreTicksWhere (IsNearVertex a b c) l ticks

pub near_between : (a b c l r step low high : ℤ) (ticks : Ticks) → AreBetween step low high l ticks → step ≡ a → low ≡ neg_ℤ r -ℤ b → high ≡ r -ℤ b → IsRootBelow (discriminant a b c) r → AreNear a b c l ticks
near_between a b c l r step low high ticks between step_is low_is high_is root = where_same (λ t. (low ≤ℤ (a *ℤ t)) × ((a *ℤ t) ≤ℤ high)) _ l ticks
    (λ t h. square_within (a *ℤ t +ℤ b) r (discriminant a b c) root.low root.below (omega (arith, ints, h.0)) (omega (arith, ints, h.1)))
    (λ t h. let k = within_square (a *ℤ t +ℤ b) r (discriminant a b c) root.low root.next_not_below h in (omega (arith, ints, k.0), omega (arith, ints, k.1)))
    (rw (sym step_is) between)

-- no square is below 0
pub near_none : (a b c l : ℤ) → discriminant a b c ≤ℤ pos 0 → AreNear a b c l Empty
near_none a b c l low = where_none _ l (λ t from to h. let square = square_low (a *ℤ t +ℤ b) in omega (arith, ints))

-- the greatest number whose square is below another
pub root_under : (n : ℕ) (square : ℤ) (r : ℕ) → pos n ≡ square -ℤ pos 1 → square <ℤ pos (2 ^ 103) → r * r ≤ n → n < (r + 1) * (r + 1) → IsRootBelow square (pos r)
root_under n square r n_is high root next = record {
  low = omega (arith, ints);
  high = by_lt_z (pos r) (pos (2 ^ 52)) (λ small. small) (λ large. let h : 2 ^ 52 ≤ r = omega (arith, ints) in absurd (omega (arith, ints, mul-le (2 ^ 52) (2 ^ 52) r r h h)));
  below = omega (arith, ints);
  next_not_below = omega (arith, ints);
}

abbrev pub AreBelow : ℤ → ℤ → ℤ → ℤ → Ticks → Type 0
AreBelow a b c l ticks = AreTicksWhere (λ t. parabola_at a b c t <ℤ pos 0) l ticks

-- a parabola that bends is below 0 near its vertex, and there alone
pub below_near : (a b c l : ℤ) (ticks : Ticks) → AreNear a b c l ticks → pos 0 <ℤ a → AreBelow a b c l ticks
below_near a b c l ticks near up = where_same (IsNearVertex a b c) _ l ticks
    (λ t h. let e = completed a b c t (a *ℤ t) refl in below_scaled a (parabola_at a b c t) up (omega (arith, ints)))
    (λ t h. let e = completed a b c t (a *ℤ t) refl in let k = scaled_below a (parabola_at a b c t) up h in omega (arith, ints))
    near

-- one that never comes below 0
pub below_none : (a b c l : ℤ) → StaysAbove a b c l → AreBelow a b c l Empty
below_none a b c l stays = where_none _ l (λ t from to below. let above = stays t from to in absurd (omega (arith, ints)))

-- a line is a parabola that doesn't bend
pub below_line : (a b c l slope start : ℤ) (ticks : Ticks) → AreAbove slope start l ticks → a ≡ pos 0 → slope ≡ negsuc 1 *ℤ b → start ≡ negsuc 0 -ℤ c → AreBelow a b c l ticks
below_line a b c l slope start ticks above a_is slope_is start_is = where_same (λ t. pos 0 ≤ℤ (slope *ℤ t +ℤ start)) _ l ticks
    (λ t h. rw a_is (let k = simp spread at (rw slope_is at h) in simp spread (omega (arith, ints))))
    (λ t h. let k = simp spread at (rw a_is at h) in rw slope_is (simp spread (omega (arith, ints))))
    above
