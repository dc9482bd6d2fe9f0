-- the pieces before were taken, and the count has stayed
use Rattle.std.proofs.Common.{◌≡◌, take}
use Rattle.std.specs.Io.KnownBytes.{Appends}
use Rattle.replay_cli.specs.Pieces.{pieces_text}
use Rattle.replay_cli.proofs.texts.pieces.tell_pieces.Given as goal

abbrev pub invariant-loop-piece : goal.invariant-loop-piece
invariant-loop-piece g l = record {
  taken : Appends (g.K.Sink.taken l.initial.sink) (g.K.Sink.taken l.sink) (pieces_text (take l.piece-index l.pieces));
  kept : g.K.Sink.faults l.sink ≡ g.K.Sink.faults l.initial.sink;
}
