use Rattle.std.proofs.Common.{◌≡◌, sym, ◌-ℤ◌, ◌≤◌, ◌^◌, arith}
use Rattle.std.specs.Int.RustNames.{unsigned_abs}
use Rattle.std.proofs.lemmas.Int.{ints}
use Rattle.approach_funnel.specs.Approaches.{across}
use Rattle.approach_funnel.proofs.Fits.{as_is, difference_is, direction}
use Rattle.approach_funnel.proofs.Moving.{at_start, offset_changes}
use Rattle.approach_funnel.proofs.Vectors.{difference_within}
use Rattle.approach_funnel.proofs.course.offset.Goals as goal
use Rattle.approach_funnel.proofs.course.offset.Goals.{After-across, After-across-2}

start : (c : After-across) → c.across.result ≡ across c.args.f.now (c.args.m.now.x -ℤ c.args.f.now.x) (c.args.m.now.y -ℤ c.args.f.now.y)
start c =
    let x = c.requires.motion.x in
    let y = c.requires.motion.y in
    let fx_low = c.requires.funnel.x.low in
    let fx_high = c.requires.funnel.x.high in
    let fy_low = c.requires.funnel.y.low in
    let fy_high = c.requires.funnel.y.high in
    rw (difference_is c.args.m.now.x c.args.f.now.x (omega arith) (omega (arith, ints)), difference_is c.args.m.now.y c.args.f.now.y (omega arith) (omega (arith, ints))) at c.across.ensures

start_near : (c : After-across) → unsigned_abs c.across.result ≤ 2 ^ 48
start_near c =
    let x = c.requires.motion.x in
    let y = c.requires.motion.y in
    let fx_low = c.requires.funnel.x.low in
    let fx_high = c.requires.funnel.x.high in
    let fy_low = c.requires.funnel.y.low in
    let fy_high = c.requires.funnel.y.high in
    let near = direction c.args.f.now c.requires.funnel in
    let within = difference_within (c.args.m.now.x -ℤ c.args.f.now.x) (c.args.m.now.y -ℤ c.args.f.now.y) c.args.f.now.dy c.args.f.now.dx (2 ^ 33) (omega (arith, ints)) (omega (arith, ints)) near.1 near.0 in
    rw (start c) (omega (arith, ints))

change : (c : After-across-2) → c.across-2.result ≡ across c.args.f.now c.args.m.now.vx c.args.m.now.vy
change c =
    let vx = c.requires.motion.vx in
    let vy = c.requires.motion.vy in
    rw (as_is c.args.m.now.vx (omega arith), as_is c.args.m.now.vy (omega arith)) at c.across-2.ensures

change_slow : (c : After-across-2) → unsigned_abs c.across-2.result ≤ 2 ^ 30
change_slow c =
    let vx = c.requires.motion.vx in
    let vy = c.requires.motion.vy in
    let near = direction c.args.f.now c.requires.funnel in
    let within = difference_within c.args.m.now.vx c.args.m.now.vy c.args.f.now.dy c.args.f.now.dx (2 ^ 15) (omega arith) (omega arith) near.1 near.0 in
    rw (change c) (omega (arith, ints))

pub invariant_of-result : goal.invariant_of-result
invariant_of-result c =
    let near = start_near (goal.at.invariant_of-result c).After-across in
    let slow = change_slow (goal.at.invariant_of-result c).After-across-2 in
    rw (as_is c.across.result (omega arith), as_is c.across-2.result (omega arith)) (record { range = record { near = near; slow = slow } })

pub returns-clause-at_each : goal.returns-clause-at_each
returns-clause-at_each c =
    let at = goal.at.returns-clause-at_each c in
    let near = start_near at.After-across in
    let slow = change_slow at.After-across-2 in
    rw (as_is c.across.result (omega arith), as_is c.across-2.result (omega arith), start at.After-across, change at.After-across-2) (offset_changes c.args.f.now c.args.m.now)

pub returns-clause-start : goal.returns-clause-start
returns-clause-start c =
    let at = goal.at.returns-clause-start c in
    let near = start_near at.After-across in
    rw (as_is c.across.result (omega arith), start at.After-across) (sym (at_start _ _ _ (offset_changes c.args.f.now c.args.m.now)))
