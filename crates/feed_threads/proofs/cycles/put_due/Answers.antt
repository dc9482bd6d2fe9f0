use Rattle.std.proofs.Common.{◌≡◌, Some, sym}
use Rattle.feed_threads.specs.Cursors.{first_due}
use Rattle.feed_threads.proofs.Feeding.{one_put}
use Rattle.feed_threads.proofs.cycles.put_due.Goals as goal

pub loop-stamp-preserved : goal.loop-stamp-preserved
loop-stamp-preserved c =
    let is : first_due c.args.k c.loop-stamp.cursor ≡ Some c.in-Some.stamp = sym c.in-Some.ensures.due in
    let puts = c.in_ok-put.ensures in
    rw c.advance.ensures (one_put c.args.k c.args.table.now c.loop-stamp.table c.put.new.self c.args.cursor.now c.loop-stamp.cursor c.in-Some.stamp c.loop-stamp.invariant is c.in-Some.ensures.seen puts.stands puts.others)
