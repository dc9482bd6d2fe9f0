-- the hits with the rows so far were added, one step for each
use Rattle.std.proofs.Common.{◌≡◌, ◌+◌, ◌++◌, take}
use Rattle.std.specs.List.{filter_map}
use Rattle.alert_states.specs.Figures.{AreInRoom}
use Rattle.cycle_workers.specs.Hits.{hit_of}
use Rattle.cycle_workers.proofs.hits.add_hits.Given as goal

abbrev pub invariant-loop-b : goal.invariant-loop-b
invariant-loop-b g l = record {
  found : l.hits.items ≡ l.fn.hits.items ++ filter_map (hit_of l.site l.a) (take l.b-index l.others);
  room : AreInRoom l.hits.items;
  counted : l.steps ≡ l.fn.steps + l.b-index;
}
