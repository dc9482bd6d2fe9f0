use Rattle.std.proofs.Common.{◌-ℤ◌, ◌*ℤ◌, arith}
use Rattle.std.proofs.lemmas.Int.{ints}
use Rattle.approach_funnel.proofs.Fits.{as_is_wide, wide_is}
use Rattle.approach_funnel.proofs.Beyond.{balance_fits}
use Rattle.approach_funnel.proofs.lines.Limit.balance.Goals as goal

pub overflow_sub-result : goal.overflow_sub-result
overflow_sub-result c =
    let range = c.args.self.range in
    let weight = range.weight_range in
    let share = range.share_range in
    let distance = c.requires.distance in
    let number = c.requires.number in
    let fits = balance_fits c.args.self.weight c.args.self.share c.args.self.base c.args.distance c.args.number range distance number in
    let weighed = fits.weighed in
    let shared = fits.shared in
    rw (
      c.from.ensures,
      c.from-2.ensures,
      c.from-3.ensures,
      c.from-4.ensures,
      wide_is c.args.self.weight (omega arith),
      wide_is c.args.number (omega arith),
      wide_is c.args.self.share (omega arith),
      wide_is c.args.distance (omega arith),
      as_is_wide (c.args.self.weight *ℤ c.args.number) (omega arith),
      as_is_wide (c.args.self.share *ℤ c.args.distance) (omega arith),
    ) (omega (arith, ints))

pub returns : goal.returns
returns c =
    let range = c.args.self.range in
    let weight = range.weight_range in
    let share = range.share_range in
    let distance = c.requires.distance in
    let number = c.requires.number in
    let fits = balance_fits c.args.self.weight c.args.self.share c.args.self.base c.args.distance c.args.number range distance number in
    let weighed = fits.weighed in
    let shared = fits.shared in
    let whole = fits.whole in
    rw (
      c.from.ensures,
      c.from-2.ensures,
      c.from-3.ensures,
      c.from-4.ensures,
      wide_is c.args.self.weight (omega arith),
      wide_is c.args.number (omega arith),
      wide_is c.args.self.share (omega arith),
      wide_is c.args.distance (omega arith),
      as_is_wide (c.args.self.weight *ℤ c.args.number) (omega arith),
      as_is_wide (c.args.self.share *ℤ c.args.distance) (omega arith),
    ) (as_is_wide (c.args.self.weight *ℤ c.args.number -ℤ c.args.self.share *ℤ c.args.distance) (omega arith))
