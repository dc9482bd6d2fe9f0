use Rattle.std.proofs.Common.{pos, ◌+ℤ◌, ◌*ℤ◌, ◌≤ℤ◌}
use Rattle.track_table.specs.Times.{half_day}
use Rattle.track_tests.proofs.tests.tables.expect_stamps.Given as goal

-- each record moves the clock on by half a day at most
abbrev pub invariant-loop-place : goal.invariant-loop-place
invariant-loop-place g l = record {
  begun : l.start ≤ℤ l.clock.latest;
  near : l.clock.latest ≤ℤ (l.start +ℤ pos l.place *ℤ half_day);
}
