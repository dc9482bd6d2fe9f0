-- those of the movers so far whose set enables the net were found
use Rattle.std.proofs.Common.{◌≡◌, take}
use Rattle.std.specs.List.{filter_map}
use Rattle.cycle_workers.specs.Eligible.{if_enabled}
use Rattle.cycle_workers.specs.Movers.{AreMovers}
use Rattle.cycle_workers.proofs.movers.enabled.Given as goal

abbrev pub invariant-loop-mover : goal.invariant-loop-mover
invariant-loop-mover l = record {
  found : l.movers.items ≡ filter_map (if_enabled l.site l.net) (take l.mover-index l.all);
  each : AreMovers l.site l.movers.items;
}
