use Rattle.track_table.specs.Kept.{CanFreeze}
use Rattle.track_tests.proofs.tests.tables.expect_puts.Given as goal

abbrev pub invariant-loop-s : goal.invariant-loop-s
invariant-loop-s g l = CanFreeze l.table 0
