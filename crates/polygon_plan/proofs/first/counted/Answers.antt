use Rattle.std.proofs.Common.{◌∙◌, w64}
use Rattle.std.proofs.lemmas.Int.{to_z-of_z}
use Rattle.tick_sets.specs.Inequalities.{line_at}
use Rattle.polygon_plan.specs.Inside.{edges}
use Rattle.polygon_plan.proofs.Counts.{counted_more, crossings_whole}
use Rattle.polygon_plan.proofs.first.counted.Goals as goal

pub loop-i-preserved : goal.loop-i-preserved
loop-i-preserved c =
    rw c.in_ok-push.ensures.items
    (counted_more (edges c.args.points.now) c.loop-i.i (c.edge_at.result.from, c.edge_at.result.to) c.args.m.now _ c.loop-i.sets.items c.ticks.result c.edge_at.ensures c.loop-i.invariant c.ticks.ensures)

pub returns : goal.returns
returns c =
    let counted = rw (to_z-of_z w64 c.args.l c.ranges.l) at c.loop-i.invariant in
    λ t low high. counted t low high ∙ crossings_whole c.args.points.now c.loop-i.i (line_at c.args.m.now.vx c.args.m.now.x t) (line_at c.args.m.now.vy c.args.m.now.y t) c.loop-i-test.false
