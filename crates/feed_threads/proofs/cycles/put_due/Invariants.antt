-- those of the stamps that were put, and those that are left
use Rattle.std.proofs.Common.{length}
use Rattle.feed_threads.proofs.Feeding.{PutSoFar}
use Rattle.feed_threads.proofs.cycles.put_due.Given as goal

abbrev pub invariant-loop-stamp : goal.invariant-loop-stamp
invariant-loop-stamp l = PutSoFar l.k l.fn.table l.table l.fn.cursor l.cursor

abbrev pub decreases-loop-stamp : goal.decreases-loop-stamp
decreases-loop-stamp l = length l.cursor
