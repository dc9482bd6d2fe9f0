use Rattle.track_table.specs.Kept.{CanFreeze}
use Rattle.track_tests.proofs.tests.tables.want_of_memory.Given as goal

abbrev pub invariant-loop-i : goal.invariant-loop-i
invariant-loop-i g l = CanFreeze l.table 0
