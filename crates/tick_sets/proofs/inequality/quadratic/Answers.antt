use Rattle.std.proofs.Common.{arith, w64, SFits}
use Rattle.std.proofs.lemmas.Int.{ints, to_z-of_z}
use Rattle.tick_sets.proofs.Parabolas.{below_line, below_near, below_none}
use Rattle.tick_sets.proofs.inequality.quadratic.Goals as goal
use mir.Syntax.{w128}

pub returns-then-stays_above : goal.returns-then-stays_above
returns-then-stays_above c =
    let fits_a : SFits w128 c.args.a = c.ranges.a in
    let fits_b : SFits w128 c.args.b = c.ranges.b in
    let fits_c : SFits w128 c.args.c = c.ranges.c in
    let fits_l : SFits w64 c.args.l = c.ranges.l in
    let stays = simp to_z-of_z at c.stays_above.ensures in
    below_none c.args.a c.args.b c.args.c c.args.l (stays c.if-stays_above.true)

pub returns-then-a-eq0 : goal.returns-then-a-eq0
returns-then-a-eq0 c =
    let fits_l : SFits w64 c.args.l = c.ranges.l in
    let line = simp to_z-of_z at c.linear.ensures in
    below_line c.args.a c.args.b c.args.c c.args.l _ _ c.linear.result line
    (omega (arith, ints)) (omega (arith, ints)) (omega (arith, ints))

pub returns : goal.returns
returns c =
    let fits_a : SFits w128 c.args.a = c.ranges.a in
    let fits_b : SFits w128 c.args.b = c.ranges.b in
    let fits_c : SFits w128 c.args.c = c.ranges.c in
    let fits_l : SFits w64 c.args.l = c.ranges.l in
    let near = simp to_z-of_z at c.near_vertex.ensures in
    below_near c.args.a c.args.b c.args.c c.args.l c.near_vertex.result near (omega (arith, ints))
