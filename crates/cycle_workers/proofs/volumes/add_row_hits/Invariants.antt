-- the hits by the volumes so far were added
use Rattle.std.proofs.Common.{◌≡◌, ◌++◌, take}
use Rattle.std.specs.List.{filter_map}
use Rattle.alert_states.specs.Figures.{AreInRoom}
use Rattle.cycle_workers.specs.Hits.{apw_hit_by, numbered}
use Rattle.cycle_workers.proofs.volumes.add_row_hits.Given as goal

abbrev pub invariant-loop-i : goal.invariant-loop-i
invariant-loop-i l = record {
  found : l.hits.items ≡ l.fn.hits.items ++ filter_map (apw_hit_by l.time l.set l.m) (take l.i (numbered l.areas));
  room : AreInRoom l.hits.items;
}
