use Rattle.std.proofs.Common.{w64}
use Rattle.std.proofs.lemmas.Int.{to_z-of_z}
use Rattle.polygon_plan.proofs.Lines.{where_counts}
use Rattle.polygon_plan.proofs.edge.Edge.ticks.Goals as goal

pub returns : goal.returns
returns c =
    let between = rw (to_z-of_z w64 c.args.l c.ranges.l) at c.ticks_between.ensures in
    let left = rw (to_z-of_z w64 c.args.l c.ranges.l) at c.ticks_left.ensures in
    where_counts c.args.m.now (c.args.self.now.from, c.args.self.now.to) c.upward-edge.result.from c.upward-edge.result.to c.args.l c.ticks_between.result c.ticks_left.result c.meet.result c.upward-edge.ensures between left c.meet.ensures.members c.meet.ensures.proper
