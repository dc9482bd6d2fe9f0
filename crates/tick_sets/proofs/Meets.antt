-- The ticks that two spans share.
use Rattle.std.proofs.Common.{◌≡◌, ℤ, ◌≤ℤ◌, ◌↔◌, arith}
use Rattle.std.specs.Int.{int_max, int_min}
use Rattle.std.proofs.lemmas.Int.{ints, clamps}
use Rattle.tick_sets.specs.Ticks.{Has}
use Rattle.tick_sets.specs.declared.Ticks.{Ticks}
use Rattle.tick_sets.specs.declared.Ticks.TheVariants.{Span}

pub shared : (first last start end low high : ℤ) (ticks met : Ticks) → ticks ≡ Span start end → low ≡ int_max first start → high ≡ int_min last end → ((t : ℤ) → Has met t ↔ ((low ≤ℤ t) × (t ≤ℤ high))) → (t : ℤ) → Has met t ↔ ((first ≤ℤ t) × (t ≤ℤ last) × Has ticks t)
shared first last start end low high ticks met ticks_is low_is high_is members t = rw ticks_is (
  λ h. let k : (low ≤ℤ t) × (t ≤ℤ high) = (members t).0 h in
      (omega (arith, ints, clamps), omega (arith, ints, clamps), (omega (arith, ints, clamps), omega (arith, ints, clamps))),
  λ k. (members t).1 (omega (arith, ints, clamps, k.0, k.2.0), omega (arith, ints, clamps, k.1, k.2.1)),
)
