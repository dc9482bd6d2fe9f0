-- the hits by the funnels so far were added
use Rattle.std.proofs.Common.{◌≡◌, ◌++◌, take}
use Rattle.std.specs.List.{filter_map}
use Rattle.alert_states.specs.Figures.{AreInRoom}
use Rattle.cycle_workers.specs.Hits.{apm_hit_by, numbered}
use Rattle.cycle_workers.proofs.funnels.add_row_hits.Given as goal

abbrev pub invariant-loop-i : goal.invariant-loop-i
invariant-loop-i l = record {
  found : l.hits.items ≡ l.fn.hits.items ++ filter_map (apm_hit_by l.set l.m) (take l.i (numbered l.approaches));
  room : AreInRoom l.hits.items;
}
