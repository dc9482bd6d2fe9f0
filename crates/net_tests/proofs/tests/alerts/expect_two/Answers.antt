use Rattle.std.proofs.Common.{refl}
use Rattle.std.specs.List.Sorted.{IsStrictlySortedBy}
use Rattle.net_tests.proofs.tests.alerts.expect_two.Goals as goal

pub cycle-requires : goal.cycle-requires
unfolding IsStrictlySortedBy
cycle-requires g c = ((refl, tt), (tt, tt))
