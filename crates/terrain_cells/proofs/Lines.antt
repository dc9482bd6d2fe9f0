-- The first tick at which a line is below a limit.
use Rattle.std.proofs.Common.{◌≡◌, sym, ℤ, pos, ◌+ℤ◌, ◌-ℤ◌, ◌≤ℤ◌, ◌<ℤ◌, true, false, int_le, int_lt, Some, None, arith}
use Rattle.std.proofs.lemmas.Int.{ints, by_lt_z}
use Rattle.tick_sets.specs.Inequalities.{line_at}
use Rattle.tick_sets.specs.Steps.{IsQuotient}
use Rattle.terrain_cells.specs.Walks.{FindsFrom, is_below_limit}
use Rattle.terrain_cells.proofs.Products.{minus_times, times_ge, times_le}

pub lt_true : (x y : ℤ) → x <ℤ y → int_lt x y ≡ true
lt_true x y h = sym (omega (arith, ints))

pub lt_fact : (x y : ℤ) → int_lt x y ≡ true → x <ℤ y
lt_fact x y h = omega (arith, ints)

pub lt_false : (x y : ℤ) → y ≤ℤ x → int_lt x y ≡ false
lt_false x y h = sym (omega (arith, ints))

pub le_not : (x y : ℤ) → int_le x y ≡ false → y <ℤ x
le_not x y h = omega (arith, ints)

pub lt_not : (x y : ℤ) → int_lt x y ≡ false → y ≤ℤ x
lt_not x y h = omega (arith, ints)

pub below_at_once : (a b limit from to : ℤ) → from ≤ℤ to → line_at a b from <ℤ limit → FindsFrom (is_below_limit a b limit) from to (Some from)
below_at_once a b limit from to order below = record {
  not_before = omega (arith, ints);
  not_after = order;
  passes = lt_true (line_at a b from) limit below;
  earlier = λ s start before. absurd (omega (arith, ints));
}

-- where it isn't at the first and at the last tick, it is at none between
between : (a b limit from to t : ℤ) → limit ≤ℤ line_at a b from → limit ≤ℤ line_at a b to → from ≤ℤ t → t ≤ℤ to → limit ≤ℤ line_at a b t
between a b limit from to t start end low high = by_lt_z a (pos 0)
    (λ down. let h = times_ge a t to (omega (arith, ints)) high in omega (arith, ints))
    (λ up. let h = times_le a from t up low in omega (arith, ints))

pub below_never : (a b limit from to : ℤ) → limit ≤ℤ line_at a b from → limit ≤ℤ line_at a b to → FindsFrom (is_below_limit a b limit) from to None
below_never a b limit from to start end = λ t low high. lt_false (line_at a b t) limit (between a b limit from to t start end low high)

-- ---- a line that falls below the limit
pub falling : (a b limit from to : ℤ) → from ≤ℤ to → limit ≤ℤ line_at a b from → line_at a b to <ℤ limit → a <ℤ pos 0
falling a b limit from to order start end = by_lt_z a (pos 0) (λ down. down) (λ up. let h = times_le a from to up order in absurd (omega (arith, ints)))

pub above_first : (a b limit from to : ℤ) → pos 0 ≤ℤ from → from ≤ℤ to → limit ≤ℤ line_at a b from → line_at a b to <ℤ limit → limit ≤ℤ b
above_first a b limit from to low order start end =
    let down = falling a b limit from to order start end in
    let h = times_ge a (pos 0) from (omega (arith, ints)) low in
    omega (arith, ints)

pub below_after : (a b limit from to q : ℤ) → from ≤ℤ to → limit ≤ℤ line_at a b from → line_at a b to <ℤ limit → IsQuotient (b -ℤ limit) (pos 0 -ℤ a) q → FindsFrom (is_below_limit a b limit) from to (Some (q +ℤ pos 1))
below_after a b limit from to q order start end quotient =
    let down = falling a b limit from to order start end in
    let at_q = rw (minus_times a q) at quotient.at_most in
    let after_q = rw (minus_times a (q +ℤ pos 1)) at quotient.next_above in
    record {
      not_before = by_lt_z (q +ℤ pos 1) from
          (λ early. let h = times_ge a (q +ℤ pos 1) from (omega (arith, ints)) (omega (arith, ints)) in absurd (omega (arith, ints)))
          (λ late. late);
      not_after = by_lt_z q to
          (λ early. omega (arith, ints))
          (λ late. let h = times_ge a to q (omega (arith, ints)) late in absurd (omega (arith, ints)));
      passes = lt_true (line_at a b (q +ℤ pos 1)) limit (omega (arith, ints));
      earlier = λ s low before. lt_false (line_at a b s) limit (let h = times_ge a s q (omega (arith, ints)) (omega (arith, ints)) in omega (arith, ints));
    }
