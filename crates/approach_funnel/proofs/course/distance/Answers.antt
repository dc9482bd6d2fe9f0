use Rattle.std.proofs.Common.{◌≡◌, sym, ◌-ℤ◌, ◌≤◌, ◌^◌, arith}
use Rattle.std.specs.Int.RustNames.{unsigned_abs}
use Rattle.std.proofs.lemmas.Int.{ints}
use Rattle.approach_funnel.specs.Approaches.{along}
use Rattle.approach_funnel.proofs.Fits.{as_is, difference_is, direction, negated_is}
use Rattle.approach_funnel.proofs.Moving.{at_start, distance_changes}
use Rattle.approach_funnel.proofs.Vectors.{sum_within}
use Rattle.approach_funnel.proofs.course.distance.Goals as goal
use Rattle.approach_funnel.proofs.course.distance.Goals.{After-along, After-along-2}

start : (c : After-along) → c.along.result ≡ along c.args.f.now (c.args.m.now.x -ℤ c.args.f.now.x) (c.args.m.now.y -ℤ c.args.f.now.y)
start c =
    let x = c.requires.motion.x in
    let y = c.requires.motion.y in
    let fx_low = c.requires.funnel.x.low in
    let fx_high = c.requires.funnel.x.high in
    let fy_low = c.requires.funnel.y.low in
    let fy_high = c.requires.funnel.y.high in
    rw (difference_is c.args.m.now.x c.args.f.now.x (omega arith) (omega (arith, ints)), difference_is c.args.m.now.y c.args.f.now.y (omega arith) (omega (arith, ints))) at c.along.ensures

start_near : (c : After-along) → unsigned_abs c.along.result ≤ 2 ^ 48
start_near c =
    let x = c.requires.motion.x in
    let y = c.requires.motion.y in
    let fx_low = c.requires.funnel.x.low in
    let fx_high = c.requires.funnel.x.high in
    let fy_low = c.requires.funnel.y.low in
    let fy_high = c.requires.funnel.y.high in
    let near = direction c.args.f.now c.requires.funnel in
    let within = sum_within (c.args.m.now.x -ℤ c.args.f.now.x) (c.args.m.now.y -ℤ c.args.f.now.y) c.args.f.now.dx c.args.f.now.dy (2 ^ 33) (omega (arith, ints)) (omega (arith, ints)) near.0 near.1 in
    rw (start c) (omega (arith, ints))

change : (c : After-along-2) → c.along-2.result ≡ along c.args.f.now c.args.m.now.vx c.args.m.now.vy
change c =
    let vx = c.requires.motion.vx in
    let vy = c.requires.motion.vy in
    rw (as_is c.args.m.now.vx (omega arith), as_is c.args.m.now.vy (omega arith)) at c.along-2.ensures

change_slow : (c : After-along-2) → unsigned_abs c.along-2.result ≤ 2 ^ 30
change_slow c =
    let vx = c.requires.motion.vx in
    let vy = c.requires.motion.vy in
    let near = direction c.args.f.now c.requires.funnel in
    let within = sum_within c.args.m.now.vx c.args.m.now.vy c.args.f.now.dx c.args.f.now.dy (2 ^ 15) (omega arith) (omega arith) near.0 near.1 in
    rw (change c) (omega (arith, ints))

pub overflow_sub-result : goal.overflow_sub-result
overflow_sub-result c = let near = start_near c in rw (as_is c.along.result (omega arith)) (omega (arith, ints))

pub overflow_sub-result-2 : goal.overflow_sub-result-2
overflow_sub-result-2 c = let slow = change_slow c in rw (as_is c.along-2.result (omega arith)) (omega (arith, ints))

pub invariant_of-result : goal.invariant_of-result
invariant_of-result c =
    let near = start_near (goal.at.invariant_of-result c).After-along in
    let slow = change_slow (goal.at.invariant_of-result c).After-along-2 in
    rw (negated_is c.along.result (omega arith), negated_is c.along-2.result (omega arith)) (record { range = record { near = omega (arith, ints); slow = omega (arith, ints) } })

pub returns-clause-at_each : goal.returns-clause-at_each
returns-clause-at_each c =
    let at = goal.at.returns-clause-at_each c in
    let near = start_near at.After-along in
    let slow = change_slow at.After-along-2 in
    rw (negated_is c.along.result (omega arith), negated_is c.along-2.result (omega arith), start at.After-along, change at.After-along-2) (distance_changes c.args.f.now c.args.m.now)

pub returns-clause-start : goal.returns-clause-start
returns-clause-start c =
    let at = goal.at.returns-clause-start c in
    let near = start_near at.After-along in
    rw (negated_is c.along.result (omega arith), start at.After-along) (sym (at_start _ _ _ (distance_changes c.args.f.now c.args.m.now)))

pub returns-clause-change : goal.returns-clause-change
returns-clause-change c =
    let at = goal.at.returns-clause-change c in
    let slow = change_slow at.After-along-2 in
    rw (negated_is c.along-2.result (omega arith), change at.After-along-2)
