use Rattle.std.proofs.Common.{◌+◌, ◌*◌, ◌^◌, ◌<◌}
use Rattle.tick_sets.proofs.root.word_root.Given as goal

-- the root is not below the one that is sought
abbrev pub invariant-loop-root : goal.invariant-loop-root
invariant-loop-root l = (l.n < (l.root + 1) * (l.root + 1)) × (l.root < 2 ^ 32)

abbrev pub decreases-loop-root : goal.decreases-loop-root
decreases-loop-root l = l.root
