-- From the first tick in an odd number of the sets to the first tick inside.
use Rattle.std.proofs.Common.{sym, ap, ◌∙◌, ℕ, ◌%◌, List, Option, Some, None, Result, Ok, Err, IfOk, IfSome, IfNone, ℤ, eqb-true, eq-eqb}
use Rattle.tick_sets.specs.Ticks.{Has, IsFirstTick, IsInOddNumber}
use Rattle.tick_sets.specs.declared.Ticks.{Ticks}
use Rattle.tick_sets.specs.declared.Ticks.TheVariants.{Span}
use Rattle.track_motion.specs.declared.motion.Motion.{Motion}
use Rattle.polygon_plan.specs.Inside.{edges, IsInsideAt}
use Rattle.polygon_plan.specs.Ranges.{AreAhead}
use Rattle.polygon_plan.specs.Sides.{AreCounted}

-- at each tick of a span that is ahead both say the same
pub record AreSame (P Q : ℤ → Type 0) (within : Ticks) : Type 0 where
  pub to : (t : ℤ) → Has within t → P t → Q t
  pub from : (t : ℤ) → Has within t → Q t → P t

pub odd_is_inside : (points : List (ℤ × ℤ)) (m : Motion) (first last : ℤ) (sets : List Ticks) → AreCounted (edges points) m last sets → AreAhead (Span first last) → AreSame (IsInOddNumber sets) (IsInsideAt points m) (Span first last)
odd_is_inside points m first last sets counted ahead = record {
  to = λ t inside odd. eq-eqb _ 1 (ap (λ (n : ℕ). n % 2) (sym (counted t (ahead t inside).low inside.1)) ∙ odd);
  from = λ t inside holds. ap (λ (n : ℕ). n % 2) (counted t (ahead t inside).low inside.1) ∙ eqb-true _ 1 holds;
}

pub found_same : {E : Type 0} (P Q : ℤ → Type 0) (within : Ticks) (r : Result (Option ℤ) E) → AreSame P Q within → IfOk r (λ answer. IfSome answer (IsFirstTick P within)) → IfOk r (λ answer. IfSome answer (IsFirstTick Q within))
found_same P Q within (Err e) same h = h
found_same P Q within (Ok None) same h = h
found_same P Q within (Ok (Some t)) same h = record {
  member = h.member;
  holds = same.to t h.member h.holds;
  first = λ s inside holds. h.first s inside (same.from s inside holds);
}

pub none_same : {E : Type 0} (P Q : ℤ → Type 0) (within : Ticks) (r : Result (Option ℤ) E) → AreSame P Q within → IfOk r (λ answer. IfNone answer ((t : ℤ) → Has within t → ¬ P t)) → IfOk r (λ answer. IfNone answer ((t : ℤ) → Has within t → ¬ Q t))
none_same P Q within (Err e) same h = h
none_same P Q within (Ok None) same h = λ t inside holds. h t inside (same.from t inside holds)
none_same P Q within (Ok (Some t)) same h = h
