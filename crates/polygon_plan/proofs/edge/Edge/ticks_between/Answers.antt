use Rattle.std.proofs.Common.{arith, w64}
use Rattle.std.proofs.lemmas.Int.{to_z-of_z}
use Rattle.polygon_plan.proofs.Fits.{wide_difference_is, wide_is, wide_neg_is, wide_room_is}
use Rattle.polygon_plan.proofs.Lines.{where_between}
use Rattle.polygon_plan.proofs.edge.Edge.ticks_between.Goals as goal

pub returns : goal.returns
returns c =
    let range_y = c.requires.motion.y in
    let range_vy = c.requires.motion.vy in
    let from_y = c.args.self.now.from_near.y in
    let to_y = c.args.self.now.to_near.y in
    let above = rw (
      c.from.ensures,
      c.from-2.ensures,
      wide_is c.args.m.now.vy (omega arith),
      wide_difference_is c.args.m.now.y c.args.self.now.from.1 (omega arith) (omega arith),
      to_z-of_z w64 c.args.l c.ranges.l,
    ) at c.linear-above.ensures in
    let below = rw (
      c.from-3.ensures,
      c.from-4.ensures,
      wide_neg_is c.args.m.now.vy (omega arith),
      wide_room_is c.args.self.now.to.1 c.args.m.now.y (omega arith) (omega arith),
      to_z-of_z w64 c.args.l c.ranges.l,
    ) at c.linear-below.ensures in
    where_between c.args.m.now c.args.self.now.from.1 c.args.self.now.to.1 c.args.l c.linear-above.result c.linear-below.result c.meet.result above below c.meet.ensures.members c.meet.ensures.proper
