use Rattle.std.proofs.Common.{w64}
use Rattle.std.proofs.lemmas.Int.{to_z-of_z}
use Rattle.stca_fine.proofs.Apart.{negated_is, room_above, room_below, speed_is}
use Rattle.stca_fine.proofs.Spans.{where_level}
use Rattle.stca_fine.proofs.relative.Relative.ticks_level.Goals as goal

pub returns : goal.returns
returns c =
    let apart = c.self.invariant.2.apart in
    let speed = c.self.invariant.2.speed in
    let under = rw (c.from.ensures, c.from-2.ensures, negated_is c.self.inside.dvz speed, room_below c.args.limit c.self.inside.dz c.requires.limit apart, to_z-of_z w64 c.args.look c.ranges.look) at c.linear-below.ensures in
    let over = rw (c.from-3.ensures, c.from-4.ensures, speed_is c.self.inside.dvz speed, room_above c.args.limit c.self.inside.dz c.requires.limit apart, to_z-of_z w64 c.args.look c.ranges.look) at c.linear-above.ensures in
    rw (← c.self.view_is) (where_level c.self.inside.dvz c.self.inside.dz c.args.limit c.args.look c.linear-below.result c.linear-above.result c.meet.result under over c.meet.ensures.members c.meet.ensures.proper)
