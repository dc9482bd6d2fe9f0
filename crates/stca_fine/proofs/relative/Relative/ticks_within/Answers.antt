use Rattle.std.proofs.Common.{w64}
use Rattle.std.proofs.lemmas.Int.{to_z-of_z}
use Rattle.stca_fine.specs.Relative.{IsLevel, IsNear}
use Rattle.stca_fine.proofs.Spans.{where_both}
use Rattle.stca_fine.proofs.relative.Relative.ticks_within.Goals as goal

pub returns-in_default : goal.returns-in_default
returns-in_default c =
    let near = rw (to_z-of_z w64 c.args.h c.ranges.h, to_z-of_z w64 c.args.look c.ranges.look) at c.ticks_near.ensures in
    let level = rw (to_z-of_z w64 c.args.v c.ranges.v, to_z-of_z w64 c.args.look c.ranges.look) at c.ticks_level.ensures in
    where_both (IsNear c.args.self.now c.args.h) (IsLevel c.args.self.now c.args.v) c.args.look _ _ c.meet.result near level c.meet.ensures.members c.meet.ensures.proper
