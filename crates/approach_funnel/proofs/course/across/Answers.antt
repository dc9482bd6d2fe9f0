use Rattle.std.proofs.lemmas.Int.{to_z-of_z}
use Rattle.approach_funnel.proofs.Fits.{direction}
use Rattle.approach_funnel.proofs.Vectors.{products_fit}
use Rattle.approach_funnel.proofs.course.across.Goals as goal

pub overflow_mul-result : goal.overflow_mul-result
overflow_mul-result c =
    let near = direction c.args.f.now c.requires.funnel in
    let fits = products_fit c.args.x c.args.y c.args.f.now.dy c.args.f.now.dx c.requires.vector.x_range c.requires.vector.y_range near.1 near.0 in
    let x = fits.x_fits in
    let u = fits.u_fits in
    simp to_z-of_z fits.first

pub overflow_mul-result-2 : goal.overflow_mul-result-2
overflow_mul-result-2 c =
    let near = direction c.args.f.now c.requires.funnel in
    let fits = products_fit c.args.x c.args.y c.args.f.now.dy c.args.f.now.dx c.requires.vector.x_range c.requires.vector.y_range near.1 near.0 in
    let y = fits.y_fits in
    let v = fits.v_fits in
    simp to_z-of_z fits.second

pub overflow_sub-result : goal.overflow_sub-result
overflow_sub-result c =
    let near = direction c.args.f.now c.requires.funnel in
    let fits = products_fit c.args.x c.args.y c.args.f.now.dy c.args.f.now.dx c.requires.vector.x_range c.requires.vector.y_range near.1 near.0 in
    let x = fits.x_fits in
    let u = fits.u_fits in
    let y = fits.y_fits in
    let v = fits.v_fits in
    let first = fits.first in
    let second = fits.second in
    simp to_z-of_z fits.difference

pub returns : goal.returns
returns c =
    let near = direction c.args.f.now c.requires.funnel in
    let fits = products_fit c.args.x c.args.y c.args.f.now.dy c.args.f.now.dx c.requires.vector.x_range c.requires.vector.y_range near.1 near.0 in
    let x = fits.x_fits in
    let u = fits.u_fits in
    let y = fits.y_fits in
    let v = fits.v_fits in
    let first = fits.first in
    let second = fits.second in
    let sum = fits.difference in
    simp to_z-of_z
