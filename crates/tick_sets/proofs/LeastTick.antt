-- Where a parabola that opens upwards, or a line, is least among the ticks of a look-ahead.
use Rattle.std.proofs.Common.{◌≡◌, ℤ, pos, negsuc, ◌+ℤ◌, ◌-ℤ◌, ◌*ℤ◌, ◌≤ℤ◌, ◌<ℤ◌, arith}
use Rattle.std.proofs.lemmas.Int.{ints, by_lt_z, clamps}
use Rattle.std.specs.Int.{int_min}
use Rattle.tick_sets.specs.Inequalities.{IsLook}
use Rattle.tick_sets.specs.Steps.{Reaches}
use Rattle.tick_sets.specs.Ticks.{IsLeastTick}
use Rattle.tick_sets.proofs.Products.{times_le, spread, products}

-- from a tick whose next step rises, it rises on
rises : (a b s t : ℤ) → pos 0 ≤ℤ a → s <ℤ t → pos 0 ≤ℤ (a *ℤ (pos 2 *ℤ s +ℤ pos 1) +ℤ pos 2 *ℤ b) → (a *ℤ s *ℤ s +ℤ pos 2 *ℤ b *ℤ s) ≤ℤ (a *ℤ t *ℤ t +ℤ pos 2 *ℤ b *ℤ t)
rises a b s t low later up =
    let gap : pos 0 ≤ℤ (t -ℤ s) = omega (arith, ints) in
    let slope : (a *ℤ (pos 2 *ℤ s +ℤ pos 1)) ≤ℤ (a *ℤ (s +ℤ t)) = times_le a (pos 2 *ℤ s +ℤ pos 1) (s +ℤ t) low (omega (arith, ints)) in
    let positive : pos 0 ≤ℤ (a *ℤ (s +ℤ t) +ℤ pos 2 *ℤ b) = omega (arith, ints) in
    let product : ((t -ℤ s) *ℤ pos 0) ≤ℤ ((t -ℤ s) *ℤ (a *ℤ (s +ℤ t) +ℤ pos 2 *ℤ b)) = times_le (t -ℤ s) (pos 0) (a *ℤ (s +ℤ t) +ℤ pos 2 *ℤ b) gap positive in
    let parts = simp spread at product in
    simp spread (omega (arith, products))

-- up to a tick whose last step fell, it falls
falls : (a b s t : ℤ) → pos 0 ≤ℤ a → s <ℤ t → (a *ℤ (pos 2 *ℤ t -ℤ pos 1) +ℤ pos 2 *ℤ b) <ℤ pos 0 → (a *ℤ t *ℤ t +ℤ pos 2 *ℤ b *ℤ t) <ℤ (a *ℤ s *ℤ s +ℤ pos 2 *ℤ b *ℤ s)
falls a b s t low later down =
    let gap : pos 0 ≤ℤ (t -ℤ s) = omega (arith, ints) in
    let slope : (a *ℤ (s +ℤ t)) ≤ℤ (a *ℤ (pos 2 *ℤ t -ℤ pos 1)) = times_le a (s +ℤ t) (pos 2 *ℤ t -ℤ pos 1) low (omega (arith, ints)) in
    let negative : (a *ℤ (s +ℤ t) +ℤ pos 2 *ℤ b) ≤ℤ negsuc 0 = omega (arith, ints) in
    let product : ((t -ℤ s) *ℤ (a *ℤ (s +ℤ t) +ℤ pos 2 *ℤ b)) ≤ℤ ((t -ℤ s) *ℤ negsuc 0) = times_le (t -ℤ s) (a *ℤ (s +ℤ t) +ℤ pos 2 *ℤ b) (negsuc 0) gap negative in
    let parts = simp spread at product in
    simp spread (omega (arith, products))

pub least_where : (a b l t : ℤ) → pos 0 ≤ℤ a → pos 0 ≤ℤ t → t ≤ℤ l → (pos 0 <ℤ t → (a *ℤ (pos 2 *ℤ t -ℤ pos 1) +ℤ pos 2 *ℤ b) <ℤ pos 0) → (t <ℤ l → pos 0 ≤ℤ (a *ℤ (pos 2 *ℤ t +ℤ pos 1) +ℤ pos 2 *ℤ b)) → IsLeastTick (λ t. a *ℤ t *ℤ t +ℤ pos 2 *ℤ b *ℤ t) l t
least_where a b l t low start end fell rose = record {
  not_before = start;
  not_after = end;
  least = λ s s_low s_high. by_lt_z s t
      (λ before. let h = falls a b s t low before (fell (omega (arith, ints))) in omega (arith, ints))
      (λ here. by_lt_z t s
      (λ after. rises a b t s low after (rose (omega (arith, ints))))
      (λ there. let same : s ≡ t = omega (arith, ints) in rw same (omega (arith, ints))));
  first = λ s s_low before. falls a b s t low before (fell (omega (arith, ints)));
}

-- where the multiples of twice the curvature reach how far the first step falls, or at the end
pub least_by_step : (a b l twice fall reached t : ℤ) → IsLook l → twice ≡ pos 2 *ℤ a → fall ≡ negsuc 1 *ℤ b -ℤ a → pos 0 ≤ℤ a → Reaches twice fall l reached → t ≡ int_min reached l → IsLeastTick (λ t. a *ℤ t *ℤ t +ℤ pos 2 *ℤ b *ℤ t) l t
least_by_step a b l twice fall reached t look twice_is fall_is low reaches t_is = least_where a b l t low (omega (arith, ints, clamps)) (omega (arith, ints, clamps))
    (λ positive.
    let before : (twice *ℤ (t -ℤ pos 1)) ≤ℤ (twice *ℤ (reached -ℤ pos 1)) = times_le twice (t -ℤ pos 1) (reached -ℤ pos 1) (omega (arith, ints)) (omega (arith, ints, clamps)) in
    let fell = reaches.below_before (omega (arith, ints, clamps)) in
    let parts = simp spread at (rw twice_is at before) in
    let h = simp spread at (rw twice_is at fell) in
    simp spread (omega (arith, products)))
    (λ inside.
    let same : reached ≡ t = omega (arith, ints, clamps) in
    let h = rw (same, twice_is) at (reaches.reached (omega (arith, ints, clamps))) in
    let parts = simp spread at h in
    simp spread (omega (arith, products)))
