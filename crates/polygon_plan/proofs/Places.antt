-- How far a motion comes within a look-ahead.
use Rattle.std.proofs.Common.{◌*◌, ◌^◌, ◌≤◌, ℤ, ◌*ℤ◌, arith}
use Rattle.std.specs.Int.RustNames.{unsigned_abs}
use Rattle.std.proofs.Math.Nat.{mul-le-mul}
use Rattle.std.proofs.lemmas.Int.{ints, unsigned_abs-mul}
use Rattle.tick_sets.specs.Inequalities.{IsLook, line_at}
use Rattle.track_motion.specs.declared.motion.Motion.{Motion}
use Rattle.track_motion.specs.Motions.{InRange}
use Rattle.polygon_plan.specs.Ranges.{IsPlace}

reach : (place speed t : ℤ) → unsigned_abs place ≤ 2 ^ 32 → unsigned_abs speed ≤ 2 ^ 15 → IsLook t → unsigned_abs (line_at speed place t) ≤ 2 ^ 33
reach place speed t near slow look =
    let low = look.low in
    let high = look.high in
    let ticks : unsigned_abs t ≤ 2 ^ 16 = omega (arith, ints) in
    let product : unsigned_abs (speed *ℤ t) ≤ 2 ^ 15 * 2 ^ 16 = rw unsigned_abs-mul (mul-le-mul slow ticks) in
    omega (arith, ints)

pub kept_near : (m : Motion) (t : ℤ) → InRange m → IsLook t → IsPlace (line_at m.vx m.x t) (line_at m.vy m.y t)
kept_near m t range look = record { near_x = reach m.x m.vx t range.x range.vx look; near_y = reach m.y m.vy t range.y range.vy look }
