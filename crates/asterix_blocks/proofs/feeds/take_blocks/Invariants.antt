use Rattle.std.proofs.Common.{◌≡◌, ℕ, List, [], length}
use Rattle.asterix_blocks.specs.Cutting.{Cuts, held_blocks}
use Rattle.asterix_blocks.proofs.feeds.take_blocks.Given as goal

-- of whatever was fed, these blocks were given by now; none is held where none was at first
abbrev pub invariant-loop-block : goal.invariant-loop-block
invariant-loop-block l = record {
  cuts : (fed : List ℕ) → Cuts l.fn.cutter fed l.fn.taken.items → Cuts l.cutter fed l.taken.items;
  none : held_blocks l.fn.cutter ≡ [] → held_blocks l.cutter ≡ [];
}

abbrev pub decreases-loop-block : goal.decreases-loop-block
decreases-loop-block l = length l.cutter.octets
