use Rattle.std.proofs.Common.{arith, rules, w64, SFits}
use Rattle.std.proofs.lemmas.Int.{ints, to_z-of_z}
use Rattle.tick_sets.proofs.Steps.{product_is, stays_until, stays_whole}
use Rattle.tick_sets.proofs.inequality.last_within.Goals as goal

pub returns-then-step-l : goal.returns-then-step-l
returns-then-step-l c =
    let fits_bound : SFits w64 c.args.bound = c.ranges.bound in
    let inside = rw (product_is c.args.step c.args.l c.requires c.ranges.step c.ranges.l) at c.if-step-l.true in
    stays_whole c.args.step c.args.bound c.args.l _ c.requires (omega (arith, ints)) (omega (arith, ints))

pub returns-else-bound-lt0 : goal.returns-else-bound-lt0
returns-else-bound-lt0 c =
    let fits_step : SFits w64 c.args.step = c.ranges.step in
    let fits_bound : SFits w64 c.args.bound = c.ranges.bound in
    let fits_result : SFits w64 c.quotient.result = search rules in
    let beyond = rw (product_is c.args.step c.args.l c.requires c.ranges.step c.ranges.l) at c.if-step-l.false in
    simp to_z-of_z (stays_until c.args.step c.args.bound c.args.l _ _ c.quotient.result c.requires
    (omega (arith, ints)) (omega (arith, ints)) c.quotient.ensures.quotient (omega (arith, ints)))
