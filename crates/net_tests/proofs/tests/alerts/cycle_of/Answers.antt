use Rattle.std.specs.List.Sorted.{IsStrictlySortedBy}
use Rattle.net_tests.proofs.tests.alerts.cycle_of.Goals as goal

pub cycle-requires : goal.cycle-requires
unfolding IsStrictlySortedBy
cycle-requires c = tt

pub cycle-requires-in-Some : goal.cycle-requires-in-Some
unfolding IsStrictlySortedBy
cycle-requires-in-Some c = (tt, tt)
