use Rattle.tick_sets.proofs.Ends.{Walks}
use Rattle.tick_sets.proofs.parity.first_odd.Given as goal

abbrev pub invariant-loop-end : goal.invariant-loop-end
invariant-loop-end l = Walks l.ends l.first l.last l.tick l.end-index l.odd
