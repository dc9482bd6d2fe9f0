-- the feeds so far are put
use Rattle.feed_threads.proofs.Feeding.{FeedsPut}
use Rattle.feed_threads.proofs.cycles.put_all_due.Given as goal

abbrev pub invariant-loop-cursor : goal.invariant-loop-cursor
invariant-loop-cursor l = FeedsPut l.k l.fn.table l.table l.fn.cursors l.cursors l.cursor-index
