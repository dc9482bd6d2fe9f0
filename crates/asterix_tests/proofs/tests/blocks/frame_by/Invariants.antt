use Rattle.std.proofs.Common.{◌≡◌, ◌-◌, ◌≤◌, length, List, ℕ}
use Rattle.asterix_blocks.specs.Cutting.{Cuts}
use Rattle.asterix_tests.proofs.tests.blocks.frame_by.Given as goal

-- as much was fed as was passed
abbrev pub invariant-loop-at : goal.invariant-loop-at
invariant-loop-at l = record {
  within : l.at ≤ length l.feed;
  fed : (fed : List ℕ) × (length fed ≡ l.at) × Cuts l.cutter fed l.blocks.items;
}

abbrev pub decreases-loop-at : goal.decreases-loop-at
decreases-loop-at l = length l.feed - l.at
