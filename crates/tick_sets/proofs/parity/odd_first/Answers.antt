use Rattle.std.proofs.Common.{arith, rules, w64, SFits}
use Rattle.std.proofs.lemmas.Int.{ints, to_z-of_z}
use Rattle.tick_sets.proofs.OddSets.{found_in_sets, none_in_sets}
use Rattle.tick_sets.proofs.parity.odd_first.Goals as goal

pub returns-in_ok-ends-in-Span-clause-found : goal.returns-in_ok-ends-in-Span-clause-found
returns-in_ok-ends-in-Span-clause-found c =
    let fits_first : SFits w64 c.in-Span.first = search rules in
    let fits_last : SFits w64 c.in-Span.last = search rules in
    let found = simp to_z-of_z at c.first_odd.ensures.found in
    found_in_sets c.first_odd.result c.args.sets.now _ _ _ c.args.within _ _ c.in_ok-ends-in-Span.ensures.ends c.sort_unstable.ensures.permutation c.deref.ensures.value c.in-Span.is (omega (arith, ints)) found

pub returns-in_ok-ends-in-Span-clause-none : goal.returns-in_ok-ends-in-Span-clause-none
returns-in_ok-ends-in-Span-clause-none c =
    let fits_first : SFits w64 c.in-Span.first = search rules in
    let fits_last : SFits w64 c.in-Span.last = search rules in
    let none = simp to_z-of_z at c.first_odd.ensures.none in
    none_in_sets c.first_odd.result c.args.sets.now _ _ _ c.args.within _ _ c.in_ok-ends-in-Span.ensures.ends c.sort_unstable.ensures.permutation c.deref.ensures.value c.in-Span.is (omega (arith, ints)) none
