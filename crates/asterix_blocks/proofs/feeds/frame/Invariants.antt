use Rattle.std.proofs.Common.{◌≡◌, ◌-◌, ◌≤◌, drop, length}
use Rattle.asterix_blocks.specs.Framing.{framing, framing_from, behind}
use Rattle.asterix_blocks.proofs.feeds.frame.Given as goal

-- the blocks so far, and what comes of the rest, are all
abbrev pub invariant-loop-blocks : goal.invariant-loop-blocks
invariant-loop-blocks l = record {
  within : l.at ≤ length l.feed;
  same : behind l.blocks.items (framing_from l.at (drop l.at l.feed)) ≡ framing l.feed;
}

abbrev pub decreases-loop-blocks : goal.decreases-loop-blocks
decreases-loop-blocks l = length l.feed - l.at
