use Rattle.std.proofs.Common.{◌≡◌, pos, ◌*ℤ◌, ◌+ℤ◌, arith, w16, w32, w64, FitsSigned, to_z, of_z}
use Rattle.std.proofs.lemmas.Int.{ints, to_z-of_z}
use Rattle.track_motion.specs.Motions.{moved_on}
use Rattle.track_motion.proofs.Moved.{IsTold, moved_bound, moved_is, sum_fits}
use Rattle.track_motion.proofs.motion.moved.Goals as goal
use Rattle.track_motion.proofs.motion.moved.Goals.{After-from-4}

told : (c : After-from-4) → IsTold c.args.units c.args.value c.args.speed c.args.age
told c =
    let units = c.ranges.units in
    let value = c.ranges.value in
    let speed = c.ranges.speed in
    let age = c.ranges.age in
    record { few_units = omega (arith, ints); short = omega (arith, ints); slow = omega (arith, ints); young = omega (arith, ints) }

pub overflow_add-result : goal.overflow_add-result
overflow_add-result c =
    let value : FitsSigned w32 c.args.value = c.ranges.value in
    let speed : FitsSigned w16 c.args.speed = c.ranges.speed in
    let from_value = simp to_z-of_z at c.from-2.ensures in
    let from_speed = simp to_z-of_z at c.from-3.ensures in
    rw (c.from.ensures, from_value, from_speed, c.from-4.ensures) (sum_fits c.args.units c.args.value c.args.speed c.args.age (told c))

place : (c : After-from-4) → to_z w64 (of_z w64 (to_z w64 (of_z w64 (to_z w64 (of_z w64 c.from.result) *ℤ to_z w64 (of_z w64 c.from-2.result))) +ℤ to_z w64 (of_z w64 (to_z w64 (of_z w64 c.from-3.result) *ℤ to_z w64 (of_z w64 c.from-4.result))))) ≡ moved_on c.args.units c.args.value c.args.speed (pos c.args.age)
place c =
    let value : FitsSigned w32 c.args.value = c.ranges.value in
    let speed : FitsSigned w16 c.args.speed = c.ranges.speed in
    let from_value = simp to_z-of_z at c.from-2.ensures in
    let from_speed = simp to_z-of_z at c.from-3.ensures in
    rw (c.from.ensures, from_value, from_speed, c.from-4.ensures) (moved_is c.args.units c.args.value c.args.speed c.args.age (told c))

pub returns-clause-place : goal.returns-clause-place
returns-clause-place c = place c

pub returns-clause-bound : goal.returns-clause-bound
returns-clause-bound c = rw (place c) (moved_bound c.args.units c.args.value c.args.speed c.args.age (told c))
