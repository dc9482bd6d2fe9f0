-- the feeds so far have their cursors
use Rattle.std.proofs.Common.{◌≡◌, take}
use Rattle.feed_threads.specs.Cycling.{stamps_each}
use Rattle.feed_threads.proofs.cycles.cursors_of.Given as goal

abbrev pub invariant-loop-feed : goal.invariant-loop-feed
invariant-loop-feed l = l.cursors.items ≡ stamps_each l.site (take l.feed l.inputs)
