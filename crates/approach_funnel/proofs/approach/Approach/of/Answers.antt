use Rattle.std.proofs.Common.{◌≡◌, ap, ◌∙◌, ℕ, pos, ◌*ℤ◌, ◌+ℤ◌, arith, w64, to_z, of_z}
use Rattle.std.specs.Int.RustNames.{unsigned_abs}
use Rattle.std.proofs.lemmas.Int.{ints, to_z-of_z, to_z_pos}
use Rattle.site_types.specs.Ranges.{IsFunnel}
use Rattle.site_types.specs.declared.funnel.Funnel.{Funnel}
use Rattle.tick_sets.specs.Plane.{squared_length}
use Rattle.tick_sets.specs.Roots.{root}
use Rattle.approach_funnel.proofs.Fits.{direction, length_small, squared_is}
use Rattle.approach_funnel.proofs.Vectors.{ProductsFit, products_fit}
use Rattle.approach_funnel.proofs.approach.Approach.of.Goals as goal
use Rattle.approach_funnel.proofs.approach.Approach.of.Goals.{After-isqrt-length}

fits_of : (f : Funnel) → IsFunnel f → ProductsFit f.dx f.dy f.dx f.dy
fits_of f range = let near = direction f range in let x = near.0 in let y = near.1 in products_fit f.dx f.dy f.dx f.dy (omega arith) (omega arith) x y

-- what the code computes is the square of the length
squared : (f : Funnel) → IsFunnel f → to_z w64 (of_z w64 (to_z w64 (of_z w64 (to_z w64 (of_z w64 f.dx) *ℤ to_z w64 (of_z w64 f.dx))) +ℤ to_z w64 (of_z w64 (to_z w64 (of_z w64 f.dy) *ℤ to_z w64 (of_z w64 f.dy))))) ≡ squared_length f.dx f.dy
squared f range =
    let fits = fits_of f range in
    let x = fits.x_fits in
    let y = fits.y_fits in
    let first = fits.first in
    let second = fits.second in
    let sum = fits.sum in
    simp to_z-of_z

pub overflow_mul-squared : goal.overflow_mul-squared
overflow_mul-squared c = let fits = fits_of c.args.funnel.now c.requires in let x = fits.x_fits in simp to_z-of_z fits.first

pub overflow_mul-squared-2 : goal.overflow_mul-squared-2
overflow_mul-squared-2 c = let fits = fits_of c.args.funnel.now c.requires in let y = fits.y_fits in simp to_z-of_z fits.second

pub overflow_add-squared : goal.overflow_add-squared
overflow_add-squared c =
    let fits = fits_of c.args.funnel.now c.requires in
    let x = fits.x_fits in
    let y = fits.y_fits in
    let first = fits.first in
    let second = fits.second in
    simp to_z-of_z fits.sum

pub overflow_cast-squared : goal.overflow_cast-squared
overflow_cast-squared c =
    let fits = fits_of c.args.funnel.now c.requires in
    let sum = fits.sum in
    let natural = squared_is c.args.funnel.now.dx c.args.funnel.now.dy in
    rw (squared c.args.funnel.now c.requires) (rw natural tt, omega (arith, ints))

length_is : (c : After-isqrt-length) → c.isqrt-length.result ≡ root (unsigned_abs (squared_length c.args.funnel.now.dx c.args.funnel.now.dy))
length_is c = rw (squared c.args.funnel.now c.requires) at c.isqrt-length.ensures.root

pub overflow_cast-length : goal.overflow_cast-length
overflow_cast-length c =
    let is = length_is c in
    let small = length_small c.args.funnel.now c.requires in
    omega (arith, ints)

pub invariant_of-result : goal.invariant_of-result
invariant_of-result c =
    let is = length_is (goal.at.invariant_of-result c).After-isqrt-length in
    let small = length_small c.args.funnel.now c.requires in
    to_z_pos w64 c.isqrt-length.result (omega arith) ∙ ap (λ (n : ℕ). pos n) is
