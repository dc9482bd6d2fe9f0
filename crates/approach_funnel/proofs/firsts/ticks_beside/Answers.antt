use Rattle.std.proofs.Common.{arith, w64}
use Rattle.std.proofs.lemmas.Int.{ints, to_z-of_z}
use Rattle.approach_funnel.proofs.Fits.{as_is}
use Rattle.approach_funnel.proofs.Outside.{where_side}
use Rattle.approach_funnel.proofs.firsts.ticks_beside.Goals as goal

pub returns : goal.returns
returns c =
    let half_low = c.requires.funnel.half.low in
    let half_high = c.requires.funnel.half.high in
    let side_low = c.requires.funnel.side.low in
    let side_high = c.requires.funnel.side.high in
    where_side c.args.approach.now c.side-side.result.weight c.side-side.result.share c.side-side.result.base
    c.args.distance.start c.args.distance.change c.args.offset.start c.args.offset.change c.args.look c.ticks_beyond.result
    c.side-side.ensures.weight
    (rw (c.funnel-f.ensures, as_is c.args.approach.now.side (omega (arith, ints))) at c.side-side.ensures.share)
    (rw (c.funnel-f.ensures, as_is c.args.approach.now.half (omega (arith, ints))) at c.side-side.ensures.base)
    (rw (to_z-of_z w64 c.args.look c.ranges.look) at c.ticks_beyond.ensures)
