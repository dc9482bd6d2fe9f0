-- the first cycles were made, and no write failed
use Rattle.std.proofs.Common.{◌≡◌, ◌-◌}
use Rattle.cycle_workers.specs.Settings.{setting}
use Rattle.feed_threads.specs.Reference.{cycles}
use Rattle.feed_threads.proofs.Making.{AreMade}
use Rattle.feed_threads.proofs.cycles.make_cycles.Given as goal

abbrev pub invariant-loop-engine : goal.invariant-loop-engine
invariant-loop-engine g l = record {
  made : AreMade (setting l.site l.terrain) l.inputs l.engine.next l.cursors.items l.table l.engine l.made (g.K.Sink.taken l.fn.out) (g.K.Sink.taken l.out) l.fn.steps l.steps;
  quiet : g.K.Sink.faults l.out ≡ g.K.Sink.faults l.fn.out;
}

abbrev pub decreases-loop-engine : goal.decreases-loop-engine
decreases-loop-engine g l = cycles l.site l.inputs - l.engine.next
