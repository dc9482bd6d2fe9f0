use Rattle.std.proofs.Common.{rules, pos, ◌+ℤ◌, ◌≤ℤ◌, arith, w64, SFits}
use Rattle.std.proofs.lemmas.Int.{ints, to_z-of_z}
use Rattle.tick_sets.proofs.Products.{times_le}
use Rattle.tick_sets.proofs.Parabolas.{above_to_end}
use Rattle.tick_sets.proofs.inequality.Parabola.stays_above.Goals as goal
use mir.Syntax.{w128}

pub returns-then-slope-le0 : goal.returns-then-slope-le0
returns-then-slope-le0 c holds t from to =
    let range = c.args.self.now.range in
    let fits_a : SFits w128 c.args.self.now.a = omega (arith, ints) in
    let fits_b : SFits w128 c.args.self.now.b = omega (arith, ints) in
    let fits_c : SFits w128 c.args.self.now.c = omega (arith, ints) in
    let fits_l : SFits w64 c.args.l = c.ranges.l in
    let fits_slope : SFits w128 c.value_at-slope.result = search rules in
    let fits_end : SFits w128 c.value_at.result = search rules in
    let slope_is = simp to_z-of_z at c.value_at-slope.ensures in
    let reach = times_le c.args.self.now.a (pos 0) c.args.l range.bend_low c.requires.low in
    let falls : c.value_at-slope.result ≤ℤ pos 0 = omega (arith, ints) in
    let fits_sum : SFits w128 (c.value_at-slope.result +ℤ c.args.self.now.b) = omega (arith, ints) in
    let end_is = simp to_z-of_z at c.value_at.ensures in
    let end : pos 0 ≤ℤ c.value_at.result = omega (arith, ints, holds) in
    above_to_end c.args.self.now.a c.args.self.now.b c.args.self.now.c c.args.l t c.value_at-slope.result range.bend_low slope_is falls (omega (arith, ints)) to
