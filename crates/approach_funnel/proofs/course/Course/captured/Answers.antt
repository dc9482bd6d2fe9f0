use Rattle.std.proofs.Common.{◌≡◌, ap, sym, ◌∙◌, ℤ, pos, ◌↔◌, arith}
use Rattle.std.specs.Int.RustNames.{unsigned_abs}
use Rattle.std.specs.Prelude.{IsTrue}
use Rattle.std.proofs.lemmas.Int.{ints}
use Rattle.approach_funnel.specs.Apm.{is_approaching, is_in_reach}
use Rattle.approach_funnel.proofs.Captures.{IsOutsideSides, approaching_is, beyond_sides, captured_in_all, in_reach_is, not_approaching, not_in_reach, not_in_sides}
use Rattle.approach_funnel.proofs.Fits.{as_is}
use Rattle.approach_funnel.proofs.course.Course.captured.Goals as goal
use Rattle.approach_funnel.proofs.course.Course.captured.Goals.{After-is_approaching, After-is_in_reach, After-is_beyond}

approaching : (c : After-is_approaching) → c.is_approaching.result ≡ is_approaching c.args.approach.now c.args.m.now
approaching c =
    c.is_approaching.ensures ∙
    approaching_is c.args.approach.now c.args.m.now c.distance-distance.result.start c.distance-distance.result.change
    (rw c.funnel-f.ensures at c.distance-distance.ensures.start)
    (rw c.funnel-f.ensures at c.distance-distance.ensures.change)

in_reach : (c : After-is_in_reach) → c.is_in_reach.result ≡ is_in_reach c.args.approach.now c.args.m.now
in_reach c =
    let near = c.distance-distance.result.range.near in
    (rw (as_is c.distance-distance.result.start (omega arith)) at c.is_in_reach.ensures) ∙
    in_reach_is c.args.approach.now c.args.m.now c.distance-distance.result.start (rw c.funnel-f.ensures at c.distance-distance.ensures.start)

outside : (c : After-is_beyond) → IsTrue c.is_beyond.result ↔ IsOutsideSides c.args.approach.now c.args.m.now
outside c =
    let near = c.distance-distance.result.range.near in
    let wide = c.offset-offset.result.range.near in
    let half_low = c.requires.funnel.capture_half.low in
    let half_high = c.requires.funnel.capture_half.high in
    let side_low = c.requires.funnel.capture_side.low in
    let side_high = c.requires.funnel.capture_side.high in
    let number = rw (as_is c.offset-offset.result.start (omega arith)) at c.abs.ensures.value in
    beyond_sides c.args.approach.now c.args.m.now c.side-sides.result.weight c.side-sides.result.share c.side-sides.result.base c.distance-distance.result.start c.abs.result c.is_beyond.result
    (rw (as_is c.distance-distance.result.start (omega arith), as_is c.abs.result (omega (arith, ints))) at c.is_beyond.ensures)
    c.side-sides.ensures.weight
    (rw (c.funnel-f.ensures, as_is c.args.approach.now.capture_side (omega (arith, ints))) at c.side-sides.ensures.share)
    (rw (c.funnel-f.ensures, as_is c.args.approach.now.capture_half (omega (arith, ints))) at c.side-sides.ensures.base)
    (rw c.funnel-f.ensures at c.distance-distance.ensures.start)
    (number ∙ ap (λ (z : ℤ). pos (unsigned_abs z)) (rw c.funnel-f.ensures at c.offset-offset.ensures.start))

pub returns-then-not-is_approaching-clause-captured : goal.returns-then-not-is_approaching-clause-captured
returns-then-not-is_approaching-clause-captured c =
    let at = goal.at.returns-then-not-is_approaching-clause-captured c in
    sym (not_approaching c.args.approach.now c.args.m.now (sym (approaching at.After-is_approaching) ∙ c.if-not-is_approaching.true))

pub returns-then-not-is_in_reach-clause-captured : goal.returns-then-not-is_in_reach-clause-captured
returns-then-not-is_in_reach-clause-captured c =
    let at = goal.at.returns-then-not-is_in_reach-clause-captured c in
    sym (not_in_reach c.args.approach.now c.args.m.now (sym (in_reach at.After-is_in_reach) ∙ c.if-not-is_in_reach.true))

pub returns-then-is_beyond-clause-captured : goal.returns-then-is_beyond-clause-captured
returns-then-is_beyond-clause-captured c =
    let at = goal.at.returns-then-is_beyond-clause-captured c in
    sym (not_in_sides c.args.approach.now c.args.m.now c.is_beyond.result (outside at.After-is_beyond) c.if-is_beyond.true)

pub returns-clause-captured : goal.returns-clause-captured
returns-clause-captured c =
    let at = goal.at.returns-clause-captured c in
    sym (captured_in_all c.args.approach.now c.args.m.now c.is_beyond.result
    (sym (approaching at.After-is_approaching) ∙ c.if-not-is_approaching.false)
    (sym (in_reach at.After-is_in_reach) ∙ c.if-not-is_in_reach.false)
    (outside at.After-is_beyond) c.if-is_beyond.false)

pub returns-clause-course : goal.returns-clause-course
returns-clause-course c =
    record { distance = rw c.funnel-f.ensures at c.distance-distance.ensures.at_each; offset = rw c.funnel-f.ensures at c.offset-offset.ensures.at_each }
