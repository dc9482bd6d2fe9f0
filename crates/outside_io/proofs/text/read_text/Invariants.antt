-- what was read so far was taken from the source's front, and the count is as it was
use Rattle.std.proofs.Common.{◌≡◌, ◌+◌, length}
use Rattle.std.specs.Io.KnownBytes.{Consumes}
use Rattle.outside_io.specs.declared.text.TheConstants.{PIECE}
use Rattle.outside_io.proofs.text.read_text.Given as goal

abbrev pub invariant-loop-room : goal.invariant-loop-room
invariant-loop-room g l = record {
  read : Consumes (g.S.Source.left l.initial.source) (g.S.Source.left l.source) l.text.items;
  room : l.room + length l.text.items ≡ l.fn.most;
  piece : length l.piece ≡ PIECE;
  kept : g.S.Source.faults l.source ≡ g.S.Source.faults l.initial.source;
}

abbrev pub decreases-loop-room : goal.decreases-loop-room
decreases-loop-room g l = l.room
