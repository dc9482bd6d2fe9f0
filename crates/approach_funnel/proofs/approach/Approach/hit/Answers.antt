use Rattle.std.proofs.Common.{rules, sym, ◌∙◌, w64, FitsSigned}
use Rattle.std.proofs.lemmas.Int.{to_z-of_z}
use Rattle.site_types.specs.Looks.{look_of}
use Rattle.site_types.specs.declared.net.TheConstants.{APM}
use Rattle.approach_funnel.specs.Firsts.{AreFirsts}
use Rattle.approach_funnel.proofs.Whole.{hit_is, least_finds, no_hit_inside}
use Rattle.approach_funnel.proofs.approach.Approach.hit.Goals as goal
use Rattle.approach_funnel.proofs.approach.Approach.hit.Goals.{After-of-firsts}

firsts : (c : After-of-firsts) → AreFirsts c.args.self.now c.args.m.now (look_of APM c.args.set.now) c.of-firsts.result
firsts c =
    let fits : FitsSigned w64 c.look_ahead.result = search rules in
    rw (to_z-of_z w64 c.look_ahead.result fits, c.look_ahead.ensures.look) at c.of-firsts.ensures

pub returns-in_err-first : goal.returns-in_err-first
returns-in_err-first c =
    let are = firsts (goal.at.returns-in_err-first c).After-of-firsts in
    let least = least_finds c.searches_find_the_first.ensures.finds c.args.self.now c.args.m.now (look_of APM c.args.set.now) c.of-firsts.result are in
    c.from_residual-in_err-first.ensures ∙
    sym (no_hit_inside c.searches_find_the_first.ensures.only c.args.m.now c.args.self.now c.args.set.now (sym c.in_ok-course.ensures.captured)
    (rw (sym c.least.ensures ∙ c.in_err-first.was) at least))

pub returns : goal.returns
returns c =
    let are = firsts (goal.at.returns c).After-of-firsts in
    let least = least_finds c.searches_find_the_first.ensures.finds c.args.self.now c.args.m.now (look_of APM c.args.set.now) c.of-firsts.result are in
    let fits : FitsSigned w64 c.in_ok-first.first = search rules in
    let first = to_z-of_z w64 c.in_ok-first.first fits in
    hit_is c.searches_find_the_first.ensures.finds c.searches_find_the_first.ensures.only c.args.m.now c.args.self.now c.args.set.now c.of-firsts.result c.in_ok-first.first c.hit_from.result
    (sym c.in_ok-course.ensures.captured) are (rw (sym c.least.ensures ∙ c.in_ok-first.was) at least)
    (record {
      first_is = rw first at c.hit_from.ensures.first;
      below = rw first at c.hit_from.ensures.below;
      above = rw first at c.hit_from.ensures.above;
      left = rw first at c.hit_from.ensures.left;
      right = rw first at c.hit_from.ensures.right;
      urgent = rw first at c.hit_from.ensures.urgent;
    })
