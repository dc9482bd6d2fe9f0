use Rattle.std.proofs.Common.{rules, w64, FitsSigned}
use Rattle.std.proofs.lemmas.Int.{to_z-of_z}
use Rattle.tick_sets.specs.Ticks.{IsInOddNumber}
use Rattle.tick_sets.specs.declared.Ticks.TheVariants.{Span}
use Rattle.polygon_plan.specs.Inside.{IsInsideAt}
use Rattle.polygon_plan.proofs.Firsts.{AreSame, found_same, none_same, odd_is_inside}
use Rattle.polygon_plan.proofs.first.inside_ticks.Goals as goal
use Rattle.polygon_plan.proofs.first.inside_ticks.Goals.{After-odd_first}

same : (c : After-odd_first) → AreSame (IsInOddNumber c.deref.result.now) (IsInsideAt c.args.points.now c.args.m.now) (Span c.in-Span.first c.in-Span.last)
same c =
    let fits : FitsSigned w64 c.in-Span.last = search rules in
    rw c.deref.ensures.value
    (odd_is_inside c.args.points.now c.args.m.now c.in-Span.first c.in-Span.last c.in_ok-sets-in-Span.sets.items (rw (to_z-of_z w64 c.in-Span.last fits) at c.in_ok-sets-in-Span.ensures) (rw c.in-Span.is at c.requires.ahead))

pub returns-in_ok-sets-in-Span-clause-found : goal.returns-in_ok-sets-in-Span-clause-found
returns-in_ok-sets-in-Span-clause-found c =
    let both = same (goal.at.returns-in_ok-sets-in-Span-clause-found c).After-odd_first in
    rw c.in-Span.is (found_same (IsInOddNumber c.deref.result.now) (IsInsideAt c.args.points.now c.args.m.now) (Span c.in-Span.first c.in-Span.last) c.odd_first.result both c.odd_first.ensures.found)

pub returns-in_ok-sets-in-Span-clause-none : goal.returns-in_ok-sets-in-Span-clause-none
returns-in_ok-sets-in-Span-clause-none c =
    let both = same (goal.at.returns-in_ok-sets-in-Span-clause-none c).After-odd_first in
    rw c.in-Span.is (none_same (IsInOddNumber c.deref.result.now) (IsInsideAt c.args.points.now c.args.m.now) (Span c.in-Span.first c.in-Span.last) c.odd_first.result both c.odd_first.ensures.none)
