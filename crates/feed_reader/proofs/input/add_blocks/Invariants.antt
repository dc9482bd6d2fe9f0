-- the content of the blocks given so far is gathered
use Rattle.std.proofs.Common.{ℕ, List, length}
use Rattle.std.specs.List.{All}
use Rattle.asterix_blocks.specs.declared.blocks.Block.{Block}
use Rattle.asterix_blocks.specs.Cutting.{Cuts}
use Rattle.cat062_read.specs.Tracks.{IsPlaced}
use Rattle.feed_reader.specs.Feeds.{Gathers}
use Rattle.feed_reader.proofs.input.add_blocks.Given as goal

abbrev pub invariant-loop-block : goal.invariant-loop-block
invariant-loop-block l = record {
  told : (fed : List ℕ) (given : List Block) → Cuts l.fn.cutter fed given → Gathers l.fn.gathered given → (more : List Block) × Cuts l.cutter fed more × Gathers l.gathered more;
  placed : All IsPlaced l.fn.gathered.records.items → All IsPlaced l.gathered.records.items;
}

abbrev pub decreases-loop-block : goal.decreases-loop-block
decreases-loop-block l = length l.cutter.octets
