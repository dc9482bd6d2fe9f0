-- the engine keeps its site
use Rattle.std.proofs.Common.{◌≡◌}
use Rattle.cycle_tests.proofs.tests.cycles.expect_cycles.Given as goal

abbrev pub invariant-loop-cycle : goal.invariant-loop-cycle
invariant-loop-cycle g l = l.engine.setting ≡ l.initial.engine.setting
