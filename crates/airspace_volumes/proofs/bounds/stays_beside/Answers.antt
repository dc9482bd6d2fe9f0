use Rattle.std.proofs.Common.{w64}
use Rattle.std.proofs.lemmas.Int.{to_z-of_z}
use Rattle.airspace_volumes.proofs.Either.{first_fails, first_holds}
use Rattle.airspace_volumes.proofs.bounds.stays_beside.Goals as goal

pub returns-then-stays_before : goal.returns-then-stays_before
returns-then-stays_before c =
    let before = rw (to_z-of_z w64 c.args.place c.ranges.place, to_z-of_z w64 c.args.speed c.ranges.speed, to_z-of_z w64 c.args.low c.ranges.low, to_z-of_z w64 c.args.look c.ranges.look) at c.stays_before.ensures in
    first_holds c.stays_before.result c.if-stays_before.true before

pub returns-else-stays_before : goal.returns-else-stays_before
returns-else-stays_before c =
    let before = rw (to_z-of_z w64 c.args.place c.ranges.place, to_z-of_z w64 c.args.speed c.ranges.speed, to_z-of_z w64 c.args.low c.ranges.low, to_z-of_z w64 c.args.look c.ranges.look) at c.stays_before.ensures in
    let behind = rw (to_z-of_z w64 c.args.place c.ranges.place, to_z-of_z w64 c.args.speed c.ranges.speed, to_z-of_z w64 c.args.high c.ranges.high, to_z-of_z w64 c.args.look c.ranges.look) at c.stays_behind.ensures in
    first_fails c.stays_before.result c.stays_behind.result c.if-stays_before.false before behind
