-- the hits so far and those of the rows that are left are the hits of all, and so it is with the pairs
use Rattle.std.proofs.Common.{◌≡◌, ◌+◌, ◌++◌, drop}
use Rattle.alert_states.specs.Figures.{AreInRoom}
use Rattle.cycle_workers.specs.Hits.{count_pairs, stca_hits}
use Rattle.cycle_workers.proofs.hits.pair_hits.Given as goal

abbrev pub invariant-loop-i : goal.invariant-loop-i
invariant-loop-i g l = record {
  found : l.hits.items ++ stca_hits l.site (drop l.i l.movers) ≡ stca_hits l.site l.movers;
  room : AreInRoom l.hits.items;
  examined : l.examined + count_pairs (drop l.i l.movers) ≡ count_pairs l.movers;
  counted : l.steps ≡ l.fn.steps + l.examined;
}
