use Rattle.std.proofs.Common.{rules, arith, w64, SFits}
use Rattle.std.proofs.lemmas.Int.{ints, to_z-of_z}
use Rattle.tick_sets.proofs.Lines.{above_all, above_until, above_from, above_none, falls_before, rises_before}
use Rattle.tick_sets.proofs.inequality.linear.Goals as goal
use mir.Syntax.{w128}

pub tick_quotient-requires : goal.tick_quotient-requires
tick_quotient-requires c =
    let fits_a : SFits w128 c.args.a = c.ranges.a in
    let fits_b : SFits w128 c.args.b = c.ranges.b in
    let fits_l : SFits w64 c.args.l = c.ranges.l in
    let fits_end : SFits w128 c.value_at-at_end.result = search rules in
    let end_is = simp to_z-of_z at c.value_at-at_end.ensures in
    rw (to_z-of_z w64 c.args.l fits_l) (falls_before c.args.a c.args.b c.args.l _ _ (omega (arith, ints)) (omega (arith, ints)) c.requires.look.low (omega (arith, ints)) (omega (arith, ints)))

pub tick_quotient-requires-then-at_end-ge0-2 : goal.tick_quotient-requires-then-at_end-ge0-2
tick_quotient-requires-then-at_end-ge0-2 c =
    let fits_a : SFits w128 c.args.a = c.ranges.a in
    let fits_b : SFits w128 c.args.b = c.ranges.b in
    let fits_l : SFits w64 c.args.l = c.ranges.l in
    let fits_end : SFits w128 c.value_at-at_end.result = search rules in
    let end_is = simp to_z-of_z at c.value_at-at_end.ensures in
    rw (to_z-of_z w64 c.args.l fits_l) (rises_before c.args.a c.args.b c.args.l _ _ (omega (arith, ints)) (omega (arith, ints)) c.requires.look.low (omega (arith, ints)) (omega (arith, ints)))

pub overflow_add-tick_quotient : goal.overflow_add-tick_quotient
overflow_add-tick_quotient c = omega (arith, ints)

pub returns-then-at_end-ge0 : goal.returns-then-at_end-ge0
returns-then-at_end-ge0 c =
    let fits_a : SFits w128 c.args.a = c.ranges.a in
    let fits_b : SFits w128 c.args.b = c.ranges.b in
    let fits_l : SFits w64 c.args.l = c.ranges.l in
    let fits_end : SFits w128 c.value_at-at_end.result = search rules in
    let end_is = simp to_z-of_z at c.value_at-at_end.ensures in
    above_all c.args.a c.args.b c.args.l _ _ c.span.result c.span.ensures.members c.span.ensures.proper
    (omega (arith, ints)) (omega (arith, ints)) (omega (arith, ints)) (omega (arith, ints))

pub returns-else-at_end-ge0 : goal.returns-else-at_end-ge0
returns-else-at_end-ge0 c =
    let fits_a : SFits w128 c.args.a = c.ranges.a in
    let fits_b : SFits w128 c.args.b = c.ranges.b in
    let fits_l : SFits w64 c.args.l = c.ranges.l in
    let fits_end : SFits w128 c.value_at-at_end.result = search rules in
    let end_is = simp to_z-of_z at c.value_at-at_end.ensures in
    above_until c.args.a c.args.b c.args.l _ _ _ _ c.tick_quotient.result c.span-else-at_end-ge0.result
    c.span-else-at_end-ge0.ensures.members c.span-else-at_end-ge0.ensures.proper
    (omega (arith, ints)) (omega (arith, ints)) (omega (arith, ints)) (omega (arith, ints))
    c.requires.look.low (omega (arith, ints)) (omega (arith, ints))
    c.tick_quotient.ensures.quotient (omega (arith, ints))

pub returns-then-at_end-ge0-2 : goal.returns-then-at_end-ge0-2
returns-then-at_end-ge0-2 c =
    let fits_a : SFits w128 c.args.a = c.ranges.a in
    let fits_b : SFits w128 c.args.b = c.ranges.b in
    let fits_l : SFits w64 c.args.l = c.ranges.l in
    let fits_end : SFits w128 c.value_at-at_end.result = search rules in
    let end_is = simp to_z-of_z at c.value_at-at_end.ensures in
    above_from c.args.a c.args.b c.args.l _ _ _ _ c.tick_quotient-then-at_end-ge0-2.result c.span-then-at_end-ge0-2.result
    c.span-then-at_end-ge0-2.ensures.members c.span-then-at_end-ge0-2.ensures.proper
    (omega (arith, ints)) (omega (arith, ints)) (omega (arith, ints)) (omega (arith, ints))
    c.requires.look.low (omega (arith, ints)) (omega (arith, ints))
    c.tick_quotient-then-at_end-ge0-2.ensures.quotient (omega (arith, ints))

pub returns-else-at_end-ge0-2 : goal.returns-else-at_end-ge0-2
returns-else-at_end-ge0-2 c =
    let fits_a : SFits w128 c.args.a = c.ranges.a in
    let fits_b : SFits w128 c.args.b = c.ranges.b in
    let fits_l : SFits w64 c.args.l = c.ranges.l in
    let fits_end : SFits w128 c.value_at-at_end.result = search rules in
    let end_is = simp to_z-of_z at c.value_at-at_end.ensures in
    above_none c.args.a c.args.b c.args.l (omega (arith, ints)) (omega (arith, ints))
