use Rattle.std.proofs.Common.{arith, w64, SFits}
use Rattle.std.proofs.lemmas.Int.{ints, to_z-of_z}
use Rattle.tick_sets.specs.Steps.{IsRootBelow, discriminant}
use Rattle.tick_sets.proofs.Parabolas.{near_between, near_none}
use Rattle.tick_sets.proofs.inequality.Parabola.near_vertex.Goals as goal

pub returns-in_default : goal.returns-in_default
returns-in_default c =
    near_none c.args.self.now.a c.args.self.now.b c.args.self.now.c c.args.l (rw c.in_default.is at c.reach.ensures.none)

pub overflow_sub-root-2 : goal.overflow_sub-root-2
overflow_sub-root-2 c =
    let range = c.args.self.now.range in
    let root : IsRootBelow (discriminant c.args.self.now.a c.args.self.now.b c.args.self.now.c) c.in-Some.root = rw c.in-Some.is at c.reach.ensures.found in
    omega (arith, ints)

pub returns : goal.returns
returns c =
    let fits_l : SFits w64 c.args.l = c.ranges.l in
    let range = c.args.self.now.range in
    let root : IsRootBelow (discriminant c.args.self.now.a c.args.self.now.b c.args.self.now.c) c.in-Some.root = rw c.in-Some.is at c.reach.ensures.found in
    let between = simp to_z-of_z at c.multiples_between.ensures in
    near_between c.args.self.now.a c.args.self.now.b c.args.self.now.c c.args.l c.in-Some.root _ _ _ c.multiples_between.result between
    (omega (arith, ints)) (omega (arith, ints)) (omega (arith, ints)) root
