use Rattle.std.proofs.Common.{arith, w64}
use Rattle.std.proofs.lemmas.Int.{ints, to_z-of_z}
use Rattle.airspace_volumes.proofs.Band.{where_in_band}
use Rattle.airspace_volumes.proofs.Fits.{wide_difference_is, wide_is, wide_neg_is}
use Rattle.airspace_volumes.proofs.hit.ticks_in_band.Goals as goal

pub returns : goal.returns
returns c =
    let range_z = c.requires.motion.z in
    let range_vz = c.requires.motion.vz in
    let floor_low = c.requires.volume.floor.low in
    let floor_high = c.requires.volume.floor.high in
    let ceiling_low = c.requires.volume.ceiling.low in
    let ceiling_high = c.requires.volume.ceiling.high in
    let above = rw (
      c.from.ensures,
      c.from-2.ensures,
      wide_is c.args.m.now.vz (omega arith),
      wide_difference_is c.args.m.now.z c.args.v.now.floor (omega arith) (omega (arith, ints)),
      to_z-of_z w64 c.args.look c.ranges.look,
    ) at c.linear-above.ensures in
    let below = rw (
      c.from-3.ensures,
      c.from-4.ensures,
      wide_neg_is c.args.m.now.vz (omega arith),
      wide_difference_is c.args.v.now.ceiling c.args.m.now.z (omega (arith, ints)) (omega arith),
      to_z-of_z w64 c.args.look c.ranges.look,
    ) at c.linear-below.ensures in
    where_in_band c.args.m.now c.args.v.now c.args.look c.linear-above.result c.linear-below.result c.meet.result above below c.meet.ensures.members c.meet.ensures.proper
