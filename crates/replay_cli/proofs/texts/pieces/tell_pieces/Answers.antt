-- the piece that fails leaves a prefix
use Rattle.replay_cli.specs.Pieces.{piece_text}
use Rattle.replay_cli.proofs.Told.{fails-with-prefix, prefix-part}
use Rattle.replay_cli.proofs.texts.pieces.tell_pieces.Goals as goal

pub returns-in_err-tell_piece-clause-bytes : goal.returns-in_err-tell_piece-clause-bytes
returns-in_err-tell_piece-clause-bytes g c =
    fails-with-prefix _ _ _ c.from_residual.result c.from_residual.ensures.0
    (prefix-part piece_text _ _ _ c.args.pieces.now c.loop-piece.piece-index _ c.loop-piece-test.true c.loop-piece.invariant.taken c.in_err-tell_piece.ensures.bytes)
