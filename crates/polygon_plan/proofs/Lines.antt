-- The ticks at which two lines, and three, are at or above 0.
use Rattle.std.proofs.Common.{◌≡◌, sym, ap, ◌∙◌, ℤ, pos, ◌+ℤ◌, ◌-ℤ◌, ◌*ℤ◌, ◌≤ℤ◌, ◌<ℤ◌, ◌↔◌, arith}
use Rattle.std.proofs.lemmas.Bool.{and_from, and_parts}
use Rattle.std.proofs.lemmas.Int.{ints}
use Rattle.tick_sets.specs.Inequalities.{line_at}
use Rattle.tick_sets.specs.Ticks.{Has, IsProper, AreTicksWhere}
use Rattle.tick_sets.specs.declared.Ticks.{Ticks}
use Rattle.track_motion.specs.declared.motion.Motion.{Motion}
use Rattle.polygon_plan.specs.Inside.{counts, counts_upward}
use Rattle.polygon_plan.specs.Sides.{CountsAt, IsBetween, IsLeft, cross_product}
use Rattle.polygon_plan.proofs.Products.{times_sum, sum_times, times_assoc, times_turned, less_times, minus_times}
use Rattle.polygon_plan.proofs.Turns.{lt_fact, le_fact, lt_true, le_true}

-- where the facts are the same, so are the ticks
where_same : (P Q : ℤ → Type 0) (l : ℤ) (ticks : Ticks) → ((t : ℤ) → P t → Q t) → ((t : ℤ) → Q t → P t) → AreTicksWhere P l ticks → AreTicksWhere Q l ticks
where_same P Q l ticks to from h = record {
  within = h.within;
  holds = λ t k. to t (h.holds t k);
  all = λ t start end k. h.all t start end (from t k);
  proper = h.proper;
}

-- the ticks of both sets are those at which both facts hold
where_both : (P Q : ℤ → Type 0) (l : ℤ) (a b met : Ticks) → AreTicksWhere P l a → AreTicksWhere Q l b → ((t : ℤ) → Has met t ↔ (Has a t × Has b t)) → IsProper met → AreTicksWhere (λ t. P t × Q t) l met
where_both P Q l a b met in_a in_b members proper = record {
  within = λ t k. in_a.within t ((members t).0 k).0;
  holds = λ t k. (in_a.holds t ((members t).0 k).0, in_b.holds t ((members t).0 k).1);
  all = λ t start end k. (members t).1 (in_a.all t start end k.0, in_b.all t start end k.1);
  proper = proper;
}

-- ---- between two heights
below_from : (p y high : ℤ) → (p +ℤ y) <ℤ high → pos 0 ≤ℤ ((pos 0 -ℤ p) +ℤ (high -ℤ pos 1 -ℤ y))
below_from p y high h = omega (arith, ints)

from_below : (p y high : ℤ) → pos 0 ≤ℤ ((pos 0 -ℤ p) +ℤ (high -ℤ pos 1 -ℤ y)) → (p +ℤ y) <ℤ high
from_below p y high h = omega (arith, ints)

above_from : (p y low : ℤ) → low ≤ℤ (p +ℤ y) → pos 0 ≤ℤ (p +ℤ (y -ℤ low))
above_from p y low h = omega (arith, ints)

from_above : (p y low : ℤ) → pos 0 ≤ℤ (p +ℤ (y -ℤ low)) → low ≤ℤ (p +ℤ y)
from_above p y low h = omega (arith, ints)

pub where_between : (m : Motion) (low high l : ℤ) (above below met : Ticks) →
    AreTicksWhere (λ t. pos 0 ≤ℤ line_at m.vy (m.y -ℤ low) t) l above →
    AreTicksWhere (λ t. pos 0 ≤ℤ line_at (pos 0 -ℤ m.vy) (high -ℤ pos 1 -ℤ m.y) t) l below →
    ((t : ℤ) → Has met t ↔ (Has above t × Has below t)) → IsProper met → AreTicksWhere (IsBetween m low high) l met
where_between m low high l above below met over under members proper = where_same _ (IsBetween m low high) l met
    (λ t both. (from_above (m.vy *ℤ t) m.y low both.0, from_below (m.vy *ℤ t) m.y high (rw (minus_times m.vy t) at both.1)))
    (λ t between. (above_from (m.vy *ℤ t) m.y low between.0, rw (minus_times m.vy t) (below_from (m.vy *ℤ t) m.y high between.1)))
    (where_both _ _ l above below met over under members proper)

-- ---- to the left of an edge
-- how far along each axis the place is from an end, times how far the edge goes along the other
first_is : (v t x x1 d : ℤ) → ((v *ℤ t +ℤ x) -ℤ x1) *ℤ d ≡ (v *ℤ d) *ℤ t +ℤ (x -ℤ x1) *ℤ d
first_is v t x x1 d =
    let moved : (v *ℤ t +ℤ x) -ℤ x1 ≡ v *ℤ t +ℤ (x -ℤ x1) = omega (arith, ints) in
    ap (λ (z : ℤ). z *ℤ d) moved ∙ sum_times d (v *ℤ t) (x -ℤ x1) ∙ ap (λ (z : ℤ). z +ℤ (x -ℤ x1) *ℤ d) (times_turned v t d)

second_is : (v t y y1 e : ℤ) → e *ℤ ((v *ℤ t +ℤ y) -ℤ y1) ≡ (e *ℤ v) *ℤ t +ℤ e *ℤ (y -ℤ y1)
second_is v t y y1 e =
    let moved : (v *ℤ t +ℤ y) -ℤ y1 ≡ v *ℤ t +ℤ (y -ℤ y1) = omega (arith, ints) in
    ap (λ (z : ℤ). e *ℤ z) moved ∙ times_sum e (v *ℤ t) (y -ℤ y1) ∙ ap (λ (z : ℤ). z +ℤ e *ℤ (y -ℤ y1)) (sym (times_assoc e v t))

line_from : (p q u w : ℤ) → (p +ℤ u) <ℤ (q +ℤ w) → pos 0 ≤ℤ ((q -ℤ p) +ℤ ((pos 0 -ℤ (u -ℤ w)) -ℤ pos 1))
line_from p q u w h = omega (arith, ints)

from_line : (p q u w : ℤ) → pos 0 ≤ℤ ((q -ℤ p) +ℤ ((pos 0 -ℤ (u -ℤ w)) -ℤ pos 1)) → (p +ℤ u) <ℤ (q +ℤ w)
from_line p q u w h = omega (arith, ints)

abbrev pub slope_of : Motion → ℤ × ℤ → ℤ × ℤ → ℤ
slope_of m low high = cross_product m.vx m.vy (high.0 -ℤ low.0) (high.1 -ℤ low.1)

abbrev pub start_of : Motion → ℤ × ℤ → ℤ × ℤ → ℤ
start_of m low high = cross_product (m.x -ℤ low.0) (m.y -ℤ low.1) (high.0 -ℤ low.0) (high.1 -ℤ low.1)

left_line : (m : Motion) (low high : ℤ × ℤ) (t : ℤ) → IsLeft m low high t → pos 0 ≤ℤ line_at (pos 0 -ℤ slope_of m low high) ((pos 0 -ℤ start_of m low high) -ℤ pos 1) t
left_line m low high t left =
    let h = rw (first_is m.vx t m.x low.0 (high.1 -ℤ low.1), second_is m.vy t m.y low.1 (high.0 -ℤ low.0)) at left in
    rw (less_times (m.vx *ℤ (high.1 -ℤ low.1)) ((high.0 -ℤ low.0) *ℤ m.vy) t) (line_from (m.vx *ℤ (high.1 -ℤ low.1) *ℤ t) ((high.0 -ℤ low.0) *ℤ m.vy *ℤ t) ((m.x -ℤ low.0) *ℤ (high.1 -ℤ low.1)) ((high.0 -ℤ low.0) *ℤ (m.y -ℤ low.1)) h)

line_left : (m : Motion) (low high : ℤ × ℤ) (t : ℤ) → pos 0 ≤ℤ line_at (pos 0 -ℤ slope_of m low high) ((pos 0 -ℤ start_of m low high) -ℤ pos 1) t → IsLeft m low high t
line_left m low high t line =
    let h = rw (less_times (m.vx *ℤ (high.1 -ℤ low.1)) ((high.0 -ℤ low.0) *ℤ m.vy) t) at line in
    rw (first_is m.vx t m.x low.0 (high.1 -ℤ low.1), second_is m.vy t m.y low.1 (high.0 -ℤ low.0)) (from_line (m.vx *ℤ (high.1 -ℤ low.1) *ℤ t) ((high.0 -ℤ low.0) *ℤ m.vy *ℤ t) ((m.x -ℤ low.0) *ℤ (high.1 -ℤ low.1)) ((high.0 -ℤ low.0) *ℤ (m.y -ℤ low.1)) h)

pub where_left : (m : Motion) (low high : ℤ × ℤ) (l : ℤ) (ticks : Ticks) → AreTicksWhere (λ t. pos 0 ≤ℤ line_at (pos 0 -ℤ slope_of m low high) ((pos 0 -ℤ start_of m low high) -ℤ pos 1) t) l ticks → AreTicksWhere (IsLeft m low high) l ticks
where_left m low high l ticks = where_same _ (IsLeft m low high) l ticks (line_left m low high) (left_line m low high)

-- ---- both
pub where_counts : (m : Motion) (edge : (ℤ × ℤ) × (ℤ × ℤ)) (low high : ℤ × ℤ) (l : ℤ) (between left met : Ticks) →
    ((x y : ℤ) → counts x y edge ≡ counts_upward x y low high) →
    AreTicksWhere (IsBetween m low.1 high.1) l between → AreTicksWhere (IsLeft m low high) l left →
    ((t : ℤ) → Has met t ↔ (Has between t × Has left t)) → IsProper met → AreTicksWhere (CountsAt m edge) l met
where_counts m edge low high l between left met same in_between in_left members proper = where_same _ (CountsAt m edge) l met
    (λ t both. same _ _ ∙ and_from _ _ (and_from _ _ (le_true _ _ both.0.0) (lt_true _ _ both.0.1)) (lt_true _ _ both.1))
    (λ t counted.
    let parts = and_parts _ _ (sym (same (line_at m.vx m.x t) (line_at m.vy m.y t)) ∙ counted) in
    let heights = and_parts _ _ parts.0 in
    ((le_fact _ _ heights.0, lt_fact _ _ heights.1), lt_fact _ _ parts.1))
    (where_both (IsBetween m low.1 high.1) (IsLeft m low high) l between left met in_between in_left members proper)
