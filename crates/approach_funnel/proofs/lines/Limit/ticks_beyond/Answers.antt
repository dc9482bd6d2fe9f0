use Rattle.std.proofs.Common.{◌≡◌, ◌^◌, ◌≤◌, pos, ◌-ℤ◌, ◌*ℤ◌, arith, w64}
use Rattle.std.specs.Int.RustNames.{unsigned_abs}
use Rattle.std.proofs.lemmas.Int.{ints, to_z-of_z}
use Rattle.approach_funnel.proofs.Beyond.{balance_fits, where_beyond}
use Rattle.approach_funnel.proofs.Fits.{as_is, as_is_wide}
use Rattle.approach_funnel.proofs.Where.{where_above}
use Rattle.approach_funnel.proofs.lines.Limit.ticks_beyond.Goals as goal
use Rattle.approach_funnel.proofs.lines.Limit.ticks_beyond.Goals.{After-from}

change_is : (c : After-from) → c.balance-change.result ≡ c.args.self.weight *ℤ c.args.number.change -ℤ c.args.self.share *ℤ c.args.distance.change
change_is c =
    let distance = c.args.distance.range.slow in
    let number = c.args.number.range.slow in
    rw (as_is c.args.number.change (omega arith), as_is c.args.distance.change (omega arith)) at c.balance-change.ensures

change_within : (c : After-from) → unsigned_abs c.balance-change.result ≤ 2 ^ 77
change_within c =
    let distance = c.args.distance.range.slow in
    let number = c.args.number.range.slow in
    rw (change_is c) (balance_fits c.args.self.weight c.args.self.share c.args.self.base c.args.distance.change c.args.number.change c.args.self.range (omega arith) (omega arith)).whole

start_is : (c : After-from) → c.balance.result ≡ c.args.self.weight *ℤ c.args.number.start -ℤ c.args.self.share *ℤ c.args.distance.start
start_is c =
    let distance = c.args.distance.range.near in
    let number = c.args.number.range.near in
    rw (as_is c.args.number.start (omega arith), as_is c.args.distance.start (omega arith)) at c.balance.ensures

start_within : (c : After-from) → unsigned_abs c.balance.result ≤ 2 ^ 77
start_within c =
    let distance = c.args.distance.range.near in
    let number = c.args.number.range.near in
    rw (start_is c) (balance_fits c.args.self.weight c.args.self.share c.args.self.base c.args.distance.start c.args.number.start c.args.self.range distance number).whole

base_is : (c : After-from) → c.from.result ≡ c.args.self.base
base_is c = let base = c.args.self.range.base_range in rw (as_is c.args.self.base (omega arith)) at c.from.ensures

pub overflow_sub-start : goal.overflow_sub-start
overflow_sub-start c =
    let base = c.args.self.range.base_range in
    let start = start_within c in
    let base_same = base_is c in
    rw (as_is_wide c.balance.result (omega arith), as_is_wide c.from.result (omega (arith, ints))) (omega (arith, ints))

pub overflow_sub-start-2 : goal.overflow_sub-start-2
overflow_sub-start-2 c =
    let base = c.args.self.range.base_range in
    let start = start_within (goal.at.overflow_sub-start-2 c).After-from in
    let base_same = base_is (goal.at.overflow_sub-start-2 c).After-from in
    rw (as_is_wide c.balance.result (omega arith), as_is_wide c.from.result (omega (arith, ints)), as_is_wide (c.balance.result -ℤ c.from.result) (omega (arith, ints))) (omega (arith, ints))

pub linear-requires-clause-line : goal.linear-requires-clause-line
linear-requires-clause-line c =
    let base = c.args.self.range.base_range in
    let change = change_within (goal.at.linear-requires-clause-line c).After-from in
    let start = start_within (goal.at.linear-requires-clause-line c).After-from in
    let base_same = base_is (goal.at.linear-requires-clause-line c).After-from in
    rw (
      as_is_wide c.balance-change.result (omega arith),
      as_is_wide c.balance.result (omega arith),
      as_is_wide c.from.result (omega (arith, ints)),
      as_is_wide (c.balance.result -ℤ c.from.result) (omega (arith, ints)),
      as_is_wide (c.balance.result -ℤ c.from.result -ℤ pos 1) (omega (arith, ints)),
    ) (record { slope = omega arith; start = omega (arith, ints) })

pub returns : goal.returns
returns c =
    let before = (goal.at.returns c).After-from in
    let base = c.args.self.range.base_range in
    let change = change_within before in
    let start = start_within before in
    let base_same = base_is before in
    let line = rw (
      as_is_wide c.balance-change.result (omega arith),
      as_is_wide c.balance.result (omega arith),
      as_is_wide c.from.result (omega (arith, ints)),
      as_is_wide (c.balance.result -ℤ c.from.result) (omega (arith, ints)),
      as_is_wide (c.balance.result -ℤ c.from.result -ℤ pos 1) (omega (arith, ints)),
      change_is before,
      start_is before,
      base_same,
      to_z-of_z w64 c.args.look c.ranges.look,
    ) at c.linear.ensures in
    where_beyond c.args.self.weight c.args.self.share c.args.self.base c.args.distance.start c.args.distance.change c.args.number.start c.args.number.change c.args.look c.linear.result
    (where_above _ _ c.args.look c.linear.result line)
