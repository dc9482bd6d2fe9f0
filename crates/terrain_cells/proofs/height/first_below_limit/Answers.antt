use Rattle.std.proofs.Common.{◌^◌, ◌≡◌, ◌≤◌, pos, ◌+ℤ◌, ◌≤ℤ◌, ◌<ℤ◌, unsigned_abs, arith, w64, to_z, of_z}
use Rattle.std.proofs.lemmas.Int.{ints, to_z-of_z}
use Rattle.tick_sets.specs.Inequalities.{line_at}
use Rattle.terrain_cells.proofs.Fits.{as_is, difference_is, negative_is, value_is}
use Rattle.terrain_cells.proofs.Lines.{above_first, below_after, below_at_once, below_never, falling, le_not, lt_fact, lt_not}
use Rattle.terrain_cells.proofs.Places.{le_fact}
use Rattle.terrain_cells.proofs.height.first_below_limit.Goals as goal
use Rattle.terrain_cells.proofs.height.first_below_limit.Goals.{After-value_at, After-value_at-else-value_at-limit, Else-limit-value_at}

-- ---- the altitude at the first tick and at the last
at_first : (c : After-value_at) → to_z w64 (of_z w64 c.value_at.result) ≡ line_at c.args.rate c.args.altitude c.args.from
at_first c = value_is c.args.rate c.args.altitude c.args.from c.value_at.result c.ranges.rate c.ranges.altitude c.ranges.from c.value_at.ensures.near c.value_at.ensures.value

at_last : (c : After-value_at-else-value_at-limit) → to_z w64 (of_z w64 c.value_at-else-value_at-limit.result) ≡ line_at c.args.rate c.args.altitude c.args.to
at_last c = value_is c.args.rate c.args.altitude c.args.to c.value_at-else-value_at-limit.result c.ranges.rate c.ranges.altitude c.ranges.to c.value_at-else-value_at-limit.ensures.near c.value_at-else-value_at-limit.ensures.value

above : (c : After-value_at-else-value_at-limit) → to_z w64 (of_z w64 c.value_at.result) ≡ line_at c.args.rate c.args.altitude c.args.from → c.args.limit ≤ℤ line_at c.args.rate c.args.altitude c.args.from
above c first = lt_not (line_at c.args.rate c.args.altitude c.args.from) c.args.limit (rw (first, to_z-of_z w64 c.args.limit c.ranges.limit) at c.if-value_at-limit.false)

below : (c : Else-limit-value_at) → to_z w64 (of_z w64 c.value_at-else-value_at-limit.result) ≡ line_at c.args.rate c.args.altitude c.args.to → line_at c.args.rate c.args.altitude c.args.to <ℤ c.args.limit
below c last = le_not c.args.limit (line_at c.args.rate c.args.altitude c.args.to) (rw (last, to_z-of_z w64 c.args.limit c.ranges.limit) at c.if-limit-value_at.false)

pub overflow_sub-altitude : goal.overflow_sub-altitude
overflow_sub-altitude c =
    let near : unsigned_abs c.args.altitude ≤ 2 ^ 32 = c.requires.course.near in
    let small : unsigned_abs c.args.limit ≤ 2 ^ 30 = c.requires.limit in
    omega (arith, ints)

pub quotient-requires : goal.quotient-requires
quotient-requires c =
    let at = goal.at.quotient-requires c in
    let near : unsigned_abs c.args.altitude ≤ 2 ^ 32 = c.requires.course.near in
    let slow : unsigned_abs c.args.rate ≤ 2 ^ 15 = c.requires.course.slow in
    let small : unsigned_abs c.args.limit ≤ 2 ^ 30 = c.requires.limit in
    let start = above at.After-value_at-else-value_at-limit (at_first at.After-value_at) in
    let end = below c (at_last at.After-value_at-else-value_at-limit) in
    let down = falling c.args.rate c.args.altitude c.args.limit c.args.from c.args.to c.requires.ticks.order start end in
    let low = above_first c.args.rate c.args.altitude c.args.limit c.args.from c.args.to c.requires.ticks.first.low c.requires.ticks.order start end in
    rw (difference_is c.args.altitude c.args.limit (omega arith) (omega arith), negative_is c.args.rate (omega arith)) (record { dividend_low = omega (arith, ints); divisor_low = omega (arith, ints) })

pub overflow_add-result : goal.overflow_add-result
overflow_add-result c =
    let near : unsigned_abs c.args.altitude ≤ 2 ^ 32 = c.requires.course.near in
    let small : unsigned_abs c.args.limit ≤ 2 ^ 30 = c.requires.limit in
    let low = c.quotient.ensures.quotient.low in
    let high = rw (difference_is c.args.altitude c.args.limit (omega arith) (omega arith)) at c.quotient.ensures.not_above in
    omega (arith, ints)

pub returns-then-value_at-limit : goal.returns-then-value_at-limit
returns-then-value_at-limit c =
    let first = at_first (goal.at.returns-then-value_at-limit c).After-value_at in
    let start : line_at c.args.rate c.args.altitude c.args.from <ℤ c.args.limit = lt_fact (line_at c.args.rate c.args.altitude c.args.from) c.args.limit (rw (first, to_z-of_z w64 c.args.limit c.ranges.limit) at c.if-value_at-limit.true) in
    rw (to_z-of_z w64 c.args.from c.ranges.from) (below_at_once c.args.rate c.args.altitude c.args.limit c.args.from c.args.to c.requires.ticks.order start)

pub returns-then-limit-value_at : goal.returns-then-limit-value_at
returns-then-limit-value_at c =
    let at = goal.at.returns-then-limit-value_at c in
    let start = above at.After-value_at-else-value_at-limit (at_first at.After-value_at) in
    let last = at_last at.After-value_at-else-value_at-limit in
    let end : c.args.limit ≤ℤ line_at c.args.rate c.args.altitude c.args.to = le_fact c.args.limit (line_at c.args.rate c.args.altitude c.args.to) (rw (last, to_z-of_z w64 c.args.limit c.ranges.limit) at c.if-limit-value_at.true) in
    below_never c.args.rate c.args.altitude c.args.limit c.args.from c.args.to start end

pub returns-else-limit-value_at : goal.returns-else-limit-value_at
returns-else-limit-value_at c =
    let at = goal.at.returns-else-limit-value_at c in
    let near : unsigned_abs c.args.altitude ≤ 2 ^ 32 = c.requires.course.near in
    let slow : unsigned_abs c.args.rate ≤ 2 ^ 15 = c.requires.course.slow in
    let small : unsigned_abs c.args.limit ≤ 2 ^ 30 = c.requires.limit in
    let start = above at.After-value_at-else-value_at-limit (at_first at.After-value_at) in
    let end = below at.Else-limit-value_at (at_last at.After-value_at-else-value_at-limit) in
    let low = c.quotient.ensures.quotient.low in
    let high = rw (difference_is c.args.altitude c.args.limit (omega arith) (omega arith)) at c.quotient.ensures.not_above in
    let quotient = rw (difference_is c.args.altitude c.args.limit (omega arith) (omega arith), negative_is c.args.rate (omega arith)) at c.quotient.ensures.quotient in
    rw (as_is c.quotient.result (omega (arith, ints)), as_is (c.quotient.result +ℤ pos 1) (omega (arith, ints)))
    (below_after c.args.rate c.args.altitude c.args.limit c.args.from c.args.to c.quotient.result c.requires.ticks.order start end quotient)
