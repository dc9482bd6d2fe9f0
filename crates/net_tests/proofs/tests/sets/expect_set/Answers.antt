use Rattle.std.proofs.Common.{rules, arith}
use Rattle.std.proofs.lemmas.Int.{ints}
use Rattle.net_tests.proofs.tests.sets.expect_set.Goals as goal

pub returns : goal.returns
returns g c = record {
  look = c.are_looks.ensures (search rules);
  h = record { low = omega (arith, ints); high = omega (arith, ints) };
  v_low = record { low = omega (arith, ints); high = omega (arith, ints) };
  v_high = record { low = omega (arith, ints); high = omega (arith, ints) };
  split = record { low = omega (arith, ints); high = omega (arith, ints) };
  now_h = record { low = omega (arith, ints); high = omega (arith, ints) };
  now_v_low = record { low = omega (arith, ints); high = omega (arith, ints) };
  now_v_high = record { low = omega (arith, ints); high = omega (arith, ints) };
  urgent = record { low = omega (arith, ints); high = omega (arith, ints) };
}
