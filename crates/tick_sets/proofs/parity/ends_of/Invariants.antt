use Rattle.std.proofs.Common.{take}
use Rattle.tick_sets.specs.Ends.{AreEndsOf}
use Rattle.tick_sets.proofs.parity.ends_of.Given as goal

abbrev pub invariant-loop-ticks : goal.invariant-loop-ticks
invariant-loop-ticks l = AreEndsOf (take l.ticks-index l.sets) l.ends.items
