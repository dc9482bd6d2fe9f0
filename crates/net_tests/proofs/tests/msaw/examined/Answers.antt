use Rattle.std.proofs.Common.{ap, List, ℤ, length, arith}
use Rattle.std.proofs.lemmas.Int.{ints}
use Rattle.net_tests.proofs.tests.msaw.examined.Goals as goal

pub once-requires-clause-terrain : goal.once-requires-clause-terrain
once-requires-clause-terrain g c = rw (← c.terrain-terrain.ensures) (record {
  x0 = omega (arith, ints, c.unsigned_abs.ensures.value);
  y0 = omega (arith, ints, c.unsigned_abs-2.ensures.value);
  cell = record { low = omega (arith, ints); high = omega (arith, ints) };
  columns = omega (arith, ints);
  rows = omega (arith, ints);
  values = first_of (omega (arith, ap (λ (values : List ℤ). length values) c.as_slice.ensures), grind (arith, ap (λ (values : List ℤ). length values) c.as_slice.ensures));
})
