-- the hits so far and those of the rows that are left are the hits of all
use Rattle.std.proofs.Common.{◌≡◌, ◌++◌, drop}
use Rattle.alert_states.specs.Figures.{AreInRoom}
use Rattle.cycle_workers.specs.Hits.{apm_hit_by, hits_by}
use Rattle.cycle_workers.proofs.funnels.add_funnel_hits.Given as goal

abbrev pub invariant-loop-m : goal.invariant-loop-m
invariant-loop-m l = record {
  found : l.hits.items ++ hits_by l.site apm_hit_by l.approaches (drop l.m-index l.movers) ≡ l.fn.hits.items ++ hits_by l.site apm_hit_by l.approaches l.movers;
  room : AreInRoom l.hits.items;
}
