use Rattle.std.proofs.Common.{arith, w64}
use Rattle.std.proofs.lemmas.Int.{ints, to_z-of_z}
use Rattle.approach_funnel.proofs.Fits.{as_is}
use Rattle.approach_funnel.proofs.Outside.{where_above_slope}
use Rattle.approach_funnel.proofs.firsts.ticks_above.Goals as goal

pub returns : goal.returns
returns c =
    let base_low = c.requires.funnel.high_base.low in
    let base_high = c.requires.funnel.high_base.high in
    let rise_low = c.requires.funnel.high_rise.low in
    let rise_high = c.requires.funnel.high_rise.high in
    where_above_slope c.args.approach.now c.args.m.now c.slope-slope.result.weight c.slope-slope.result.share c.slope-slope.result.base
    c.args.course.distance.start c.args.course.distance.change c.height-height.result.start c.height-height.result.change c.args.look c.ticks_beyond.result
    c.slope-slope.ensures.weight
    (rw (c.funnel-f.ensures, as_is c.args.approach.now.high_rise (omega (arith, ints))) at c.slope-slope.ensures.share)
    c.slope-slope.ensures.base
    c.requires.course.distance
    (rw (c.funnel-f.ensures, as_is c.args.approach.now.high_base (omega (arith, ints))) at c.height-height.ensures)
    (rw (to_z-of_z w64 c.args.look c.ranges.look) at c.ticks_beyond.ensures)
