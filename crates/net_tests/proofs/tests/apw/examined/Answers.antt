use Rattle.std.proofs.Common.{rules, arith}
use Rattle.std.proofs.lemmas.Int.{ints}
use Rattle.net_tests.proofs.tests.apw.examined.Goals as goal

pub once-requires-clause-volume : goal.once-requires-clause-volume
once-requires-clause-volume g c = record {
  floor = record { low = omega (arith, ints); high = omega (arith, ints) };
  ceiling = record { low = omega (arith, ints); high = omega (arith, ints) };
  points = rw c.as_slice.ensures at (c.is_polygon.ensures (search rules));
  active = c.are_active.ensures (search rules);
}
