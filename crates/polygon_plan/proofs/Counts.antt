-- How many edges count, one edge after another, and in how many sets a tick is.
use Rattle.std.proofs.Common.{◌≡◌, sym, ap, ◌∙◌, ℕ, ◌+◌, ◌%◌, ◌==◌, ◌≤◌, Bool, true, false, cond, not, List, ◌∷◌, [], ◌++◌, take, length, Some, slice_get, ℤ, pos, ◌≤ℤ◌, eq-eqb, inl, inr, arith}
use Rattle.std.proofs.lemmas.Bool.{and_from, and_parts, cases_eq, ne_eqb}
use Rattle.std.proofs.lemmas.Bool.Decides.{same_from_decides}
use Rattle.std.proofs.lemmas.List.{take_all}
use Rattle.std.proofs.lemmas.List.Sums.{sum_by_more, sum_by_push}
use Rattle.std.proofs.lemmas.Option.{get_or_from_slice_get, slice_get_within}
use Rattle.tick_sets.specs.Inequalities.{line_at}
use Rattle.tick_sets.specs.Ticks.{Has, AreTicksWhere, has_tick}
use Rattle.tick_sets.specs.declared.Ticks.{Ticks}
use Rattle.tick_sets.specs.declared.Ticks.TheVariants.{Empty, Span}
use Rattle.track_motion.specs.declared.motion.Motion.{Motion}
use Rattle.polygon_plan.specs.Inside.{counts, crossings, edges}
use Rattle.polygon_plan.specs.Sides.{AreCounted, CountsAt}
use Rattle.polygon_plan.proofs.Edges.{length-edges}
use Rattle.polygon_plan.proofs.Turns.{le_fact, le_true}
use mathlib.Core.Bool.{beq}

-- ---- one more edge
pub crossings_more : (of : List ((ℤ × ℤ) × (ℤ × ℤ))) (i : ℕ) (edge : (ℤ × ℤ) × (ℤ × ℤ)) (x y : ℤ) → slice_get of i ≡ Some edge → crossings (take (i + 1) of) x y ≡ crossings (take i of) x y + cond (counts x y edge) 1 0
crossings_more of i edge x y at =
    let f : (ℤ × ℤ) × (ℤ × ℤ) → ℕ = λ e. cond (counts x y e) 1 0 in
    sum_by_more f of i edge (slice_get_within of i edge at) ∙ ap (λ (e : (ℤ × ℤ) × (ℤ × ℤ)). crossings (take i of) x y + f e) (get_or_from_slice_get of i edge edge at)

-- a number is odd in turn
turn : (n : ℕ) (b : Bool) → not (beq (n % 2 == 1) b) ≡ ((n + cond b 1 0) % 2 == 1)
turn n true = elim (cases_eq (n % 2) 1) [
  | inl odd ↦ rw (eq-eqb (n % 2) 1 odd) (sym (ne_eqb ((n + 1) % 2) 1 (omega arith)))
  | inr even ↦ rw (ne_eqb (n % 2) 1 even) (sym (eq-eqb ((n + 1) % 2) 1 (omega arith)))
]
turn n false = elim (cases_eq (n % 2) 1) [
  | inl odd ↦ rw (eq-eqb (n % 2) 1 odd) (sym (eq-eqb ((n + 0) % 2) 1 (omega arith)))
  | inr even ↦ rw (ne_eqb (n % 2) 1 even) (sym (ne_eqb ((n + 0) % 2) 1 (omega arith)))
]

pub turned_at : (of : List ((ℤ × ℤ) × (ℤ × ℤ))) (i : ℕ) (edge : (ℤ × ℤ) × (ℤ × ℤ)) (x y : ℤ) (odd counted : Bool) → slice_get of i ≡ Some edge → odd ≡ (crossings (take i of) x y % 2 == 1) → counted ≡ counts x y edge →
    not (beq odd counted) ≡ (crossings (take (i + 1) of) x y % 2 == 1)
turned_at of i edge x y odd counted at odd_is counted_is = rw (odd_is, counted_is) (turn (crossings (take i of) x y) (counts x y edge) ∙ ap (λ (n : ℕ). n % 2 == 1) (sym (crossings_more of i edge x y at)))

-- ---- one more set
has_fact : (t : ℤ) (ticks : Ticks) → has_tick t ticks ≡ true → Has ticks t
has_fact t Empty h = absurd (cc)
has_fact t (Span first last) h = let parts = and_parts _ _ h in (le_fact first t parts.0, le_fact t last parts.1)

has_test : (t : ℤ) (ticks : Ticks) → Has ticks t → has_tick t ticks ≡ true
has_test t Empty h = absurd h
has_test t (Span first last) h = and_from _ _ (le_true first t h.0) (le_true t last h.1)

same_test : (m : Motion) (edge : (ℤ × ℤ) × (ℤ × ℤ)) (l t : ℤ) (ticks : Ticks) → AreTicksWhere (CountsAt m edge) l ticks → pos 0 ≤ℤ t → t ≤ℤ l → has_tick t ticks ≡ counts (line_at m.vx m.x t) (line_at m.vy m.y t) edge
same_test m edge l t ticks are low high = same_from_decides {P = CountsAt m edge t} _ _
    (λ h. are.holds t (has_fact t ticks h), λ h. has_test t ticks (are.all t low high h))
    (λ h. h, λ h. h)

pub counted_more : (of : List ((ℤ × ℤ) × (ℤ × ℤ))) (i : ℕ) (edge : (ℤ × ℤ) × (ℤ × ℤ)) (m : Motion) (l : ℤ) (sets : List Ticks) (ticks : Ticks) → slice_get of i ≡ Some edge → AreCounted (take i of) m l sets → AreTicksWhere (CountsAt m edge) l ticks → AreCounted (take (i + 1) of) m l (sets ++ ticks ∷ [])
counted_more of i edge m l sets ticks at counted are = λ t low high.
    sum_by_push (λ s. cond (has_tick t s) 1 0) sets ticks ∙
    ap (λ (n : ℕ). n + cond (has_tick t ticks) 1 0) (counted t low high) ∙
    ap (λ (b : Bool). crossings (take i of) (line_at m.vx m.x t) (line_at m.vy m.y t) + cond b 1 0) (same_test m edge l t ticks are low high) ∙
    sym (crossings_more of i edge (line_at m.vx m.x t) (line_at m.vy m.y t) at)

-- ---- all edges
pub crossings_whole : (points : List (ℤ × ℤ)) (i : ℕ) (x y : ℤ) → length points ≤ i → crossings (take i (edges points)) x y ≡ crossings (edges points) x y
crossings_whole points i x y past = ap (λ (of : List ((ℤ × ℤ) × (ℤ × ℤ))). crossings of x y) (take_all i (edges points) (omega (arith, length-edges points)))
