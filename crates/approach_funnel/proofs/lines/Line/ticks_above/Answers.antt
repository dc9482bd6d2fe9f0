use Rattle.std.proofs.Common.{pos, ◌-ℤ◌, arith, w64}
use Rattle.std.proofs.lemmas.Int.{ints, to_z-of_z}
use Rattle.approach_funnel.proofs.Fits.{as_is, wide_is}
use Rattle.approach_funnel.proofs.Where.{where_above}
use Rattle.approach_funnel.proofs.lines.Line.ticks_above.Goals as goal

pub returns : goal.returns
returns c =
    let near = c.args.self.range.near in
    let slow = c.args.self.range.slow in
    where_above c.args.self.change c.args.self.start c.args.look c.linear.result
    (rw (
      c.from.ensures,
      c.from-2.ensures,
      wide_is c.args.self.change (omega arith),
      as_is c.args.self.start (omega arith),
      wide_is (c.args.self.start -ℤ pos 1) (omega (arith, ints)),
      to_z-of_z w64 c.args.look c.ranges.look,
    ) at c.linear.ensures)
