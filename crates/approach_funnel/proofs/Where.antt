-- Sets of ticks at which facts hold.
use Rattle.std.proofs.Common.{ℤ, pos, ◌-ℤ◌, ◌≤ℤ◌, ◌<ℤ◌, arith}
use Rattle.std.proofs.lemmas.Int.{ints}
use Rattle.tick_sets.specs.Inequalities.{line_at}
use Rattle.tick_sets.specs.Ticks.{AreTicksWhere}
use Rattle.tick_sets.specs.declared.Ticks.{Ticks}

-- where the facts are the same, so are the ticks
pub where_same : (P Q : ℤ → Type 0) (l : ℤ) (ticks : Ticks) → ((t : ℤ) → P t → Q t) → ((t : ℤ) → Q t → P t) → AreTicksWhere P l ticks → AreTicksWhere Q l ticks
where_same P Q l ticks to from h = record {
  within = h.within;
  holds = λ t k. to t (h.holds t k);
  all = λ t start end k. h.all t start end (from t k);
  proper = h.proper;
}

-- a whole number is above 0 where it less 1 isn't below 0
pub where_above : (change start l : ℤ) (ticks : Ticks) → AreTicksWhere (λ t. pos 0 ≤ℤ line_at change (start -ℤ pos 1) t) l ticks → AreTicksWhere (λ t. pos 0 <ℤ line_at change start t) l ticks
where_above change start l ticks = where_same _ _ l ticks (λ t h. omega (arith, ints)) (λ t h. omega (arith, ints))
