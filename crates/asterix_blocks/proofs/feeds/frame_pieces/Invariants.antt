use Rattle.std.proofs.Common.{◌≡◌, List, ℕ, take}
use Rattle.std.specs.List.{flat_map}
use Rattle.asterix_blocks.specs.Framing.{framing}
use Rattle.asterix_blocks.specs.Cutting.{Cuts}
use Rattle.asterix_blocks.proofs.feeds.frame_pieces.Given as goal

-- of the pieces so far all blocks were taken
abbrev pub invariant-loop-piece : goal.invariant-loop-piece
invariant-loop-piece l = let fed : List ℕ = flat_map (λ piece. piece.now) (take l.piece-index l.pieces) in record {
  cuts : Cuts l.cutter fed l.blocks.items;
  all : l.blocks.items ≡ (framing fed).blocks;
}
