use Rattle.std.proofs.Common.{rules, pos, ◌≤ℤ◌, ◌<ℤ◌, FitsSigned, arith, w64}
use Rattle.std.proofs.lemmas.Int.{ints, to_z-of_z}
use Rattle.terrain_cells.proofs.Bands.{falling_fraction, last_falling, last_resting, last_rising, rising_fraction}
use Rattle.terrain_cells.proofs.Fits.{as_is, difference_is, negative_is, room_is}
use Rattle.terrain_cells.proofs.Lines.{lt_fact, lt_not}
use Rattle.terrain_cells.proofs.axis.Axis.last_in.Goals as goal

pub quotient-requires : goal.quotient-requires
quotient-requires c =
    let course = c.args.self.now.range.course in
    let near = course.near in
    let slow = course.slow in
    let high = c.requires.wide.high in
    let up : pos 0 <ℤ c.args.self.now.speed = lt_fact (pos 0) c.args.self.now.speed (rw (as_is c.args.self.now.speed (omega arith)) at c.if-self-gt0.true) in
    rw (room_is c.args.band.high c.args.self.now.place (omega arith) (omega arith), as_is c.args.self.now.speed (omega arith))
    (rising_fraction c.args.self.now c.args.band c.args.tick up c.requires.ticks.first.low c.requires.has)

pub quotient-requires-then-self-lt0 : goal.quotient-requires-then-self-lt0
quotient-requires-then-self-lt0 c =
    let course = c.args.self.now.range.course in
    let near = course.near in
    let slow = course.slow in
    let low = c.requires.wide.low in
    let down : c.args.self.now.speed <ℤ pos 0 = lt_fact c.args.self.now.speed (pos 0) (rw (as_is c.args.self.now.speed (omega arith)) at c.if-self-lt0.true) in
    rw (difference_is c.args.self.now.place c.args.band.low (omega arith) (omega arith), negative_is c.args.self.now.speed (omega arith))
    (falling_fraction c.args.self.now c.args.band c.args.tick down c.requires.ticks.first.low c.requires.has)

pub returns-then-self-gt0 : goal.returns-then-self-gt0
returns-then-self-gt0 c =
    let course = c.args.self.now.range.course in
    let near = course.near in
    let slow = course.slow in
    let high = c.requires.wide.high in
    let up : pos 0 <ℤ c.args.self.now.speed = lt_fact (pos 0) c.args.self.now.speed (rw (as_is c.args.self.now.speed (omega arith)) at c.if-self-gt0.true) in
    let fits_q : FitsSigned w64 c.quotient.result = search rules in
    let fits_last : FitsSigned w64 c.min.result = search rules in
    let quotient = rw (room_is c.args.band.high c.args.self.now.place (omega arith) (omega arith), as_is c.args.self.now.speed (omega arith)) at c.quotient.ensures.quotient in
    let least = rw (to_z-of_z w64 c.quotient.result fits_q, to_z-of_z w64 c.args.look c.ranges.look) at c.min.ensures.value in
    rw (to_z-of_z w64 c.min.result fits_last)
    (last_rising c.args.self.now c.args.band c.args.tick c.args.look c.quotient.result c.min.result up c.requires.ticks.order c.requires.has quotient least)

pub returns-then-self-lt0 : goal.returns-then-self-lt0
returns-then-self-lt0 c =
    let course = c.args.self.now.range.course in
    let near = course.near in
    let slow = course.slow in
    let low = c.requires.wide.low in
    let down : c.args.self.now.speed <ℤ pos 0 = lt_fact c.args.self.now.speed (pos 0) (rw (as_is c.args.self.now.speed (omega arith)) at c.if-self-lt0.true) in
    let fits_q : FitsSigned w64 c.quotient-then-self-lt0.result = search rules in
    let fits_last : FitsSigned w64 c.min-then-self-lt0.result = search rules in
    let quotient = rw (difference_is c.args.self.now.place c.args.band.low (omega arith) (omega arith), negative_is c.args.self.now.speed (omega arith)) at c.quotient-then-self-lt0.ensures.quotient in
    let least = rw (to_z-of_z w64 c.quotient-then-self-lt0.result fits_q, to_z-of_z w64 c.args.look c.ranges.look) at c.min-then-self-lt0.ensures.value in
    rw (to_z-of_z w64 c.min-then-self-lt0.result fits_last)
    (last_falling c.args.self.now c.args.band c.args.tick c.args.look c.quotient-then-self-lt0.result c.min-then-self-lt0.result down c.requires.ticks.order c.requires.has quotient least)

pub returns-else-self-lt0 : goal.returns-else-self-lt0
returns-else-self-lt0 c =
    let slow = c.args.self.now.range.course.slow in
    let not_up : c.args.self.now.speed ≤ℤ pos 0 = lt_not (pos 0) c.args.self.now.speed (rw (as_is c.args.self.now.speed (omega arith)) at c.if-self-gt0.false) in
    let not_down : pos 0 ≤ℤ c.args.self.now.speed = lt_not c.args.self.now.speed (pos 0) (rw (as_is c.args.self.now.speed (omega arith)) at c.if-self-lt0.false) in
    rw (to_z-of_z w64 c.args.look c.ranges.look) (last_resting c.args.self.now c.args.band c.args.tick c.args.look (omega (arith, ints)) c.requires.ticks.order c.requires.has)
