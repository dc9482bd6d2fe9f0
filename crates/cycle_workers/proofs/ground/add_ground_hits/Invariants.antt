-- the hits so far and those of the rows that are left are the hits of all
use Rattle.std.proofs.Common.{◌≡◌, [], ◌∷◌, ◌++◌, drop}
use Rattle.alert_states.specs.Figures.{AreInRoom}
use Rattle.cycle_workers.specs.Hits.{hits_by, msaw_hit_by}
use Rattle.cycle_workers.proofs.ground.add_ground_hits.Given as goal

abbrev pub invariant-loop-m : goal.invariant-loop-m
invariant-loop-m l = record {
  found : l.hits.items ++ hits_by l.site msaw_hit_by (l.ground ∷ []) (drop l.m-index l.movers) ≡ l.fn.hits.items ++ hits_by l.site msaw_hit_by (l.ground ∷ []) l.movers;
  room : AreInRoom l.hits.items;
}
