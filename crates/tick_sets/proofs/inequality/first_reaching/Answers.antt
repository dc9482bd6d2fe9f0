use Rattle.std.proofs.Common.{arith, w64, SFits}
use Rattle.std.proofs.lemmas.Int.{ints}
use Rattle.tick_sets.proofs.Steps.{product_is, reaches_after, reaches_never}
use Rattle.tick_sets.proofs.inequality.first_reaching.Goals as goal

pub returns-then-step-l : goal.returns-then-step-l
returns-then-step-l c =
    let fits_bound : SFits w64 c.args.bound = c.ranges.bound in
    let below = rw (product_is c.args.step c.args.l c.requires c.ranges.step c.ranges.l) at c.if-step-l.true in
    reaches_never c.args.step c.args.bound c.args.l _ c.requires (omega (arith, ints)) (omega (arith, ints))

pub returns-else-step-l : goal.returns-else-step-l
returns-else-step-l c =
    let fits_step : SFits w64 c.args.step = c.ranges.step in
    let fits_bound : SFits w64 c.args.bound = c.ranges.bound in
    let inside = rw (product_is c.args.step c.args.l c.requires c.ranges.step c.ranges.l) at c.if-step-l.false in
    reaches_after c.args.step c.args.bound c.args.l _ _ c.quotient.result _ c.requires
    (omega (arith, ints)) (omega (arith, ints)) (omega (arith, ints)) c.quotient.ensures.quotient (omega (arith, ints))
