use Rattle.std.proofs.Common.{SFits, w64, arith}
use Rattle.std.proofs.lemmas.Int.{ints, to_z-of_z}
use Rattle.tick_sets.proofs.Fits.{LineFits, line_fits}
use Rattle.tick_sets.proofs.inequality.value_at.Goals as goal
use mir.Syntax.{w128}

pub overflow_add-result : goal.overflow_add-result
overflow_add-result c =
    let fits_a : SFits w128 c.args.a = c.ranges.a in
    let fits_b : SFits w128 c.args.b = c.ranges.b in
    let fits_l : SFits w64 c.args.l = c.ranges.l in
    let wide_l : SFits w128 c.args.l = omega (arith, ints) in
    let fits : LineFits c.args.a c.args.b c.args.l = line_fits c.args.a c.args.b c.args.l c.requires.line c.requires.look in
    let product = fits.product in
    simp to_z-of_z fits.whole

pub returns : goal.returns
returns c =
    let fits_a : SFits w128 c.args.a = c.ranges.a in
    let fits_b : SFits w128 c.args.b = c.ranges.b in
    let fits_l : SFits w64 c.args.l = c.ranges.l in
    let wide_l : SFits w128 c.args.l = omega (arith, ints) in
    let fits : LineFits c.args.a c.args.b c.args.l = line_fits c.args.a c.args.b c.args.l c.requires.line c.requires.look in
    let product = fits.product in
    let whole = fits.whole in
    simp to_z-of_z
