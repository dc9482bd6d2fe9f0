use Rattle.std.proofs.Common.{pos, ◌+ℤ◌, ◌*ℤ◌, arith, rules, w64, SFits}
use Rattle.std.proofs.lemmas.Int.{ints, to_z-of_z}
use Rattle.tick_sets.specs.Ticks.{IsLeastTick}
use Rattle.tick_sets.proofs.LeastTick.{least_by_step}
use Rattle.tick_sets.proofs.Roots.{least_raised}
use Rattle.tick_sets.proofs.inequality.least_tick.Goals as goal
use Rattle.tick_sets.proofs.inequality.least_tick.Goals.{After-min}

least : (c : After-min) → IsLeastTick (λ t. c.args.a *ℤ t *ℤ t +ℤ pos 2 *ℤ c.args.b *ℤ t) c.args.l c.min.result
least c =
    let fits_l : SFits w64 c.args.l = c.ranges.l in
    let fits : SFits w64 c.first_reaching.result = search rules in
    let reaches = simp to_z-of_z at c.first_reaching.ensures in
    let lesser = simp to_z-of_z at c.min.ensures.value in
    least_by_step c.args.a c.args.b c.args.l _ _ c.first_reaching.result c.min.result c.requires.look
    (omega (arith, ints)) (omega (arith, ints)) c.requires.parabola.bend_low reaches lesser

pub returns-clause-least : goal.returns-clause-least
returns-clause-least c = let fits : SFits w64 c.min.result = search rules in rw to_z-of_z (least c)

pub returns-clause-raised : goal.returns-clause-raised
returns-clause-raised c f raised =
    let fits : SFits w64 c.min.result = search rules in
    rw to_z-of_z (least_raised c.args.a c.args.b c.args.l c.min.result f raised (least c))
