-- the movers of the rows so far were found
use Rattle.std.proofs.Common.{◌≡◌, take}
use Rattle.std.specs.List.{filter_map}
use Rattle.cycle_workers.specs.Eligible.{watched_of}
use Rattle.cycle_workers.specs.Movers.{AreMovers}
use Rattle.cycle_workers.proofs.movers.watched.Given as goal

abbrev pub invariant-loop-row : goal.invariant-loop-row
invariant-loop-row l = record {
  found : l.movers.items ≡ filter_map (watched_of l.site l.f.time) (take l.row-index l.rows);
  each : AreMovers l.site l.movers.items;
}
