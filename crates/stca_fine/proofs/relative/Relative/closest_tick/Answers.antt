use Rattle.std.proofs.Common.{◌≡◌, pos, ap, ◌∙◌, arith, rules, w64, FitsSigned, to_z, of_z}
use Rattle.std.specs.Int.RustNames.{unsigned_abs}
use Rattle.std.proofs.lemmas.Int.{ints, to_z-of_z}
use Rattle.tick_sets.specs.Inequalities.{IsRaised}
use Rattle.tick_sets.specs.Plane.{scalar_product, squared_length}
use Rattle.stca_fine.specs.Relative.{dx_at, dy_at, squared_at}
use Rattle.stca_fine.proofs.Apart.{as_is, as_is_wide, squared_is}
use Rattle.stca_fine.proofs.relative.Relative.closest_tick.Goals as goal
use Rattle.stca_fine.proofs.relative.Relative.closest_tick.Goals.{After-from, After-least_tick}
use mir.Syntax.{w128}

growth : (c : After-from) → to_z w128 (of_z w128 c.growth.result) ≡ squared_length c.args.self.now.dvx c.args.self.now.dvy
growth c =
    let bound = c.growth.ensures.bound in
    let positive = squared_is c.args.self.now.dvx c.args.self.now.dvy in
    let value = c.growth.ensures.value in
    as_is_wide c.growth.result (omega (arith, ints)) ∙ value

approach : (c : After-from) → to_z w128 (of_z w128 c.from.result) ≡ scalar_product c.args.self.now.dx c.args.self.now.dy c.args.self.now.dvx c.args.self.now.dvy
approach c =
    let bound = c.approach.ensures.bound in
    let from = c.from.ensures ∙ as_is c.approach.result (omega arith) in
    as_is_wide c.from.result (omega (arith, ints)) ∙ from ∙ c.approach.ensures.value

pub least_tick-requires-clause-parabola : goal.least_tick-requires-clause-parabola
least_tick-requires-clause-parabola c =
    let growth_bound = c.growth.ensures.bound in
    let growth_value = c.growth.ensures.value in
    let approach_bound = c.approach.ensures.bound in
    let positive = squared_is c.args.self.now.dvx c.args.self.now.dvy in
    let from = c.from.ensures ∙ as_is c.approach.result (omega arith) in
    rw (as_is_wide c.growth.result (omega (arith, ints)), as_is_wide c.from.result (omega (arith, ints))) (record {
      bend_low = omega (arith, ints);
      bend_high = growth_bound;
      slope = omega (arith, ints);
      start = omega arith;
    })

-- the squares of the distances are the parabola, raised by the square of the distance now
raised : (c : After-least_tick) → IsRaised (squared_at c.args.self.now) (to_z w128 (of_z w128 c.growth.result)) (to_z w128 (of_z w128 c.from.result)) c.args.look
raised c = rw (growth (goal.at.returns-clause-tick c).After-from, approach (goal.at.returns-clause-tick c).After-from) (record {
  by = squared_length c.args.self.now.dx c.args.self.now.dy;
  at_each = λ t before. squared_is (dx_at c.args.self.now t) (dy_at c.args.self.now t) ∙ c.squared_length_is_parabola.ensures c.args.self.now.dx c.args.self.now.dy c.args.self.now.dvx c.args.self.now.dvy (pos t);
})

pub overflow_cast-result : goal.overflow_cast-result
overflow_cast-result c =
    let fits_look : FitsSigned w64 c.args.look = c.ranges.look in
    let fits : FitsSigned w64 c.least_tick.result = search rules in
    let low = c.least_tick.ensures.least.not_before in
    let high = rw (to_z-of_z w64 c.args.look fits_look) at c.least_tick.ensures.least.not_after in
    let natural : c.least_tick.result ≡ pos (unsigned_abs c.least_tick.result) = omega (arith, ints) in
    rw (to_z-of_z w64 c.least_tick.result fits) (rw natural tt, omega (arith, ints))

pub returns-clause-tick : goal.returns-clause-tick
returns-clause-tick c =
    let fits_look : FitsSigned w64 c.args.look = c.ranges.look in
    let fits : FitsSigned w64 c.least_tick.result = search rules in
    let tick = (rw (to_z-of_z w64 c.args.look fits_look) at c.least_tick.ensures.raised) (squared_at c.args.self.now) (raised c) in
    rw (to_z-of_z w64 c.least_tick.result fits) (ap unsigned_abs tick)
