use Rattle.std.proofs.Common.{pos, ◌<ℤ◌, w64}
use Rattle.std.proofs.lemmas.Int.{to_z-of_z}
use Rattle.tick_sets.specs.Ticks.{AreTicksWhere}
use Rattle.approach_funnel.specs.Apm.{is_above, is_before, is_below, is_left, is_right}
use Rattle.approach_funnel.specs.Approaches.{distance}
use Rattle.approach_funnel.specs.Deviations.{IsAbove, IsBelow, IsLeft, IsRight}
use Rattle.approach_funnel.proofs.Outside.{where_before, where_left, where_right}
use Rattle.approach_funnel.proofs.Searches.{first_in_both, lt_fact, lt_true}
use Rattle.approach_funnel.proofs.firsts.Firsts.of.Goals as goal
use Rattle.approach_funnel.proofs.firsts.Firsts.of.Goals.{After-first_in-4}

before : (c : After-first_in-4) → AreTicksWhere (λ t. pos 0 <ℤ distance c.args.approach.now c.args.m.now t) c.args.look c.ticks_above-before.result
before c = where_before c.args.approach.now c.args.m.now c.args.course.distance.start c.args.course.distance.change c.args.look c.ticks_above-before.result c.requires.course.distance (rw (to_z-of_z w64 c.args.look c.ranges.look) at c.ticks_above-before.ensures)

pub returns : goal.returns
returns c =
    let left = where_left c.args.approach.now c.args.m.now c.args.course.distance.start c.args.course.distance.change c.args.course.offset.start c.args.course.offset.change c.args.look c.ticks_beside.result
    c.requires.course.distance c.requires.course.offset
    (rw (c.negated-left.ensures.start, c.negated-left.ensures.change, to_z-of_z w64 c.args.look c.ranges.look) at c.ticks_beside.ensures) in
    let right = where_right c.args.approach.now c.args.m.now c.args.course.distance.start c.args.course.distance.change c.args.course.offset.start c.args.course.offset.change c.args.look c.ticks_beside-2.result
    c.requires.course.distance c.requires.course.offset
    (rw (to_z-of_z w64 c.args.look c.ranges.look) at c.ticks_beside-2.ensures) in
    record {
      below = first_in_both c.searches_find_the_first.ensures.only (λ t. pos 0 <ℤ distance c.args.approach.now c.args.m.now t) (IsBelow c.args.approach.now c.args.m.now) (is_before c.args.approach.now c.args.m.now) (is_below c.args.approach.now c.args.m.now)
          c.args.look c.ticks_above-before.result c.ticks_below.result c.first_in.result c.requires.look (λ t. lt_fact _ _) (λ t. lt_true _ _) (λ t. lt_fact _ _) (λ t. lt_true _ _)
          (before c) (rw (to_z-of_z w64 c.args.look c.ranges.look) at c.ticks_below.ensures) c.first_in.ensures.none c.first_in.ensures.member c.first_in.ensures.first;
      above = first_in_both c.searches_find_the_first.ensures.only (λ t. pos 0 <ℤ distance c.args.approach.now c.args.m.now t) (IsAbove c.args.approach.now c.args.m.now) (is_before c.args.approach.now c.args.m.now) (is_above c.args.approach.now c.args.m.now)
          c.args.look c.ticks_above-before.result c.ticks_above.result c.first_in-2.result c.requires.look (λ t. lt_fact _ _) (λ t. lt_true _ _) (λ t. lt_fact _ _) (λ t. lt_true _ _)
          (before c) (rw (to_z-of_z w64 c.args.look c.ranges.look) at c.ticks_above.ensures) c.first_in-2.ensures.none c.first_in-2.ensures.member c.first_in-2.ensures.first;
      left = first_in_both c.searches_find_the_first.ensures.only (λ t. pos 0 <ℤ distance c.args.approach.now c.args.m.now t) (IsLeft c.args.approach.now c.args.m.now) (is_before c.args.approach.now c.args.m.now) (is_left c.args.approach.now c.args.m.now)
          c.args.look c.ticks_above-before.result c.ticks_beside.result c.first_in-3.result c.requires.look (λ t. lt_fact _ _) (λ t. lt_true _ _) (λ t. lt_fact _ _) (λ t. lt_true _ _)
          (before c) left c.first_in-3.ensures.none c.first_in-3.ensures.member c.first_in-3.ensures.first;
      right = first_in_both c.searches_find_the_first.ensures.only (λ t. pos 0 <ℤ distance c.args.approach.now c.args.m.now t) (IsRight c.args.approach.now c.args.m.now) (is_before c.args.approach.now c.args.m.now) (is_right c.args.approach.now c.args.m.now)
          c.args.look c.ticks_above-before.result c.ticks_beside-2.result c.first_in-4.result c.requires.look (λ t. lt_fact _ _) (λ t. lt_true _ _) (λ t. lt_fact _ _) (λ t. lt_true _ _)
          (before c) right c.first_in-4.ensures.none c.first_in-4.ensures.member c.first_in-4.ensures.first;
    }
