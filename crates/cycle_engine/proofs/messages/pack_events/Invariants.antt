-- the messages of the events so far were packed, and there is memory for those of the others
use Rattle.std.proofs.Common.{◌+◌, ◌≤◌, length, map, take}
use Rattle.cat004_write.specs.Blocks.{Packs}
use Rattle.cycle_engine.specs.Cycles.{message_in}
use Rattle.cycle_engine.proofs.messages.pack_events.Given as goal

abbrev pub invariant-loop-event : goal.invariant-loop-event
invariant-loop-event l = record {
  packed : Packs l.packer.blocks (map (message_in l.site l.f) (take l.event-index l.events));
  spare : length l.events ≤ l.packer.spare + l.event-index;
}
