use Rattle.std.proofs.Common.{pos, arith, w64}
use Rattle.std.proofs.lemmas.Int.{ints, to_z_pos}
use Rattle.tick_sets.specs.Steps.{IsRootBelow, discriminant}
use Rattle.tick_sets.proofs.Fits.{discriminant_fits, discriminant_is, less_is_natural}
use Rattle.tick_sets.proofs.Parabolas.{root_under}
use Rattle.tick_sets.proofs.inequality.Parabola.reach.Goals as goal
use Rattle.tick_sets.proofs.inequality.Parabola.reach.Goals.{After-isqrt}

pub overflow_cast-square : goal.overflow_cast-square
overflow_cast-square c =
    let bound = (discriminant_fits c.args.self.now.a c.args.self.now.b c.args.self.now.c c.args.self.now.range).bound in
    let square_is = discriminant_is c.args.self.now.a c.args.self.now.b c.args.self.now.c c.args.self.now.range in
    let positive = rw square_is at c.if-square-le0.false in
    rw square_is (less_is_natural (discriminant c.args.self.now.a c.args.self.now.b c.args.self.now.c) (omega (arith, ints)) bound)

root : (c : After-isqrt) → IsRootBelow (discriminant c.args.self.now.a c.args.self.now.b c.args.self.now.c) (pos c.isqrt.result)
root c =
    let bound = (discriminant_fits c.args.self.now.a c.args.self.now.b c.args.self.now.c c.args.self.now.range).bound in
    let square_is = discriminant_is c.args.self.now.a c.args.self.now.b c.args.self.now.c c.args.self.now.range in
    let positive = rw square_is at c.if-square-le0.false in
    let below = rw square_is at c.isqrt.ensures.square_le in
    let above = rw square_is at c.isqrt.ensures.next_square_gt in
    root_under _ (discriminant c.args.self.now.a c.args.self.now.b c.args.self.now.c) c.isqrt.result (omega (arith, ints)) bound below above

pub overflow_cast-result : goal.overflow_cast-result
overflow_cast-result c = let high = (root c).high in omega (arith, ints)

pub returns-then-square-le0-clause-none : goal.returns-then-square-le0-clause-none
returns-then-square-le0-clause-none c =
    let square_is = discriminant_is c.args.self.now.a c.args.self.now.b c.args.self.now.c c.args.self.now.range in
    let low = rw square_is at c.if-square-le0.true in
    omega (arith, ints)

pub returns-clause-found : goal.returns-clause-found
returns-clause-found c = let high = (root c).high in rw (to_z_pos w64 c.isqrt.result (omega (arith, ints))) (root c)
