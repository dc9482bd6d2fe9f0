use Rattle.std.proofs.Common.{◌≡◌, ◌∙◌, ◌-ℤ◌, ◌*ℤ◌, arith, w64, to_z, of_z}
use Rattle.std.proofs.lemmas.Int.{ints, to_z-of_z}
use Rattle.tick_sets.specs.Plane.{scalar_product, squared_length}
use Rattle.stca_fine.proofs.Apart.{as_is, as_is_wide, less_square, square_is, square_small, squared_is}
use Rattle.stca_fine.proofs.Spans.{where_near}
use Rattle.stca_fine.proofs.relative.Relative.ticks_near.Goals as goal
use Rattle.stca_fine.proofs.relative.Relative.ticks_near.Goals.{After-growth}
use mir.Syntax.{w128}

growth : (c : After-growth) → to_z w128 (of_z w128 c.growth.result) ≡ squared_length c.args.self.now.dvx c.args.self.now.dvy
growth c =
    let bound = c.growth.ensures.bound in
    let positive = squared_is c.args.self.now.dvx c.args.self.now.dvy in
    let value = c.growth.ensures.value in
    as_is_wide c.growth.result (omega (arith, ints)) ∙ value

approach : (c : After-growth) → to_z w128 (of_z w128 c.from-approach.result) ≡ scalar_product c.args.self.now.dx c.args.self.now.dy c.args.self.now.dvx c.args.self.now.dvy
approach c =
    let bound = c.approach.ensures.bound in
    let from = c.from-approach.ensures ∙ as_is c.approach.result (omega arith) in
    as_is_wide c.from-approach.result (omega (arith, ints)) ∙ from ∙ c.approach.ensures.value

start : (c : After-growth) → to_z w128 (of_z w128 (to_z w128 (of_z w128 c.start.result) -ℤ to_z w128 c.square.result)) ≡ squared_length c.args.self.now.dx c.args.self.now.dy -ℤ c.args.limit *ℤ c.args.limit
start c =
    let square = rw (to_z-of_z w64 c.args.limit c.ranges.limit) at c.square.ensures.square in
    less_square c.start.result (squared_length c.args.self.now.dx c.args.self.now.dy) c.args.limit c.square.result c.requires.limit c.start.ensures.value c.start.ensures.low c.start.ensures.high square

pub quadratic-requires-clause-parabola : goal.quadratic-requires-clause-parabola
quadratic-requires-clause-parabola c =
    let growth_bound = c.growth.ensures.bound in
    let growth_value = c.growth.ensures.value in
    let approach_bound = c.approach.ensures.bound in
    let positive = squared_is c.args.self.now.dvx c.args.self.now.dvy in
    let from = c.from-approach.ensures ∙ as_is c.approach.result (omega arith) in
    let start_value = c.start.ensures.value in
    let start_low = c.start.ensures.low in
    let start_high = c.start.ensures.high in
    let square = square_is c.args.limit in
    let square_bound = square_small c.args.limit c.requires.limit in
    rw (as_is_wide c.growth.result (omega (arith, ints)), as_is_wide c.from-approach.result (omega (arith, ints)), start c) (record {
      bend_low = omega (arith, ints);
      bend_high = growth_bound;
      slope = omega (arith, ints);
      start = omega (arith, ints);
    })

pub returns : goal.returns
returns c =
    let before = (goal.at.returns c).After-growth in
    where_near c.args.self.now c.args.limit c.args.look c.quadratic.result c.squared_length_is_parabola.ensures
    (rw (growth before, approach before, start before, to_z-of_z w64 c.args.look c.ranges.look) at c.quadratic.ensures)
