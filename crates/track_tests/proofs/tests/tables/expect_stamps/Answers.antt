use Rattle.std.proofs.Common.{◌≡◌, pos, ◌+ℤ◌, ◌*ℤ◌, ◌≤ℤ◌, w64, FitsSigned, ap, arith}
use Rattle.std.specs.Int.{int_max}
use Rattle.std.proofs.lemmas.Int.{to_z-of_z, ints}
use Rattle.track_table.specs.Stamps.{Clock}
use Rattle.track_table.specs.Times.{at_near, half_day}
use Rattle.track_table.proofs.Feeds.{step_is}
use Rattle.track_tests.proofs.tests.tables.expect_stamps.Goals as goal

pub loop-place-preserved : goal.loop-place-preserved
loop-place-preserved g c =
    let start : FitsSigned w64 c.args.start = c.ranges.start in
    let before = c.loop-place.clock.latest in
    let step = step_is before c.timed.result.time in
    let low = step.low in
    let high = step.high in
    let latest : c.stamp-stamped.new.self.latest ≡ int_max before (at_near before c.timed.result.time) = ap (λ (k : Clock). k.latest) c.stamp-stamped.ensures.clock in
    let begun : c.args.start ≤ℤ before = simp to_z-of_z at c.loop-place.invariant.begun in
    let near : before ≤ℤ (c.args.start +ℤ pos c.loop-place.place *ℤ half_day) = simp to_z-of_z at c.loop-place.invariant.near in
    record { begun = simp to_z-of_z (omega (arith, ints)); near = simp to_z-of_z (omega (arith, ints)) }
