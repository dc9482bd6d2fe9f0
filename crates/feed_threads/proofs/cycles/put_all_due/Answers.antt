use Rattle.std.proofs.Common.{◌<◌, length, arith}
use Rattle.feed_threads.proofs.Feeding.{one_feed_put}
use Rattle.feed_threads.proofs.cycles.put_all_due.Goals as goal

pub loop-cursor-preserved : goal.loop-cursor-preserved
loop-cursor-preserved c =
    let puts = c.in_ok-put_due.ensures in
    let within : c.loop-cursor.cursor-index < length c.args.cursors.now = omega (arith, c.loop-cursor-test.true, c.loop-cursor.auto.cursors) in
    one_feed_put c.args.k c.args.table.now c.loop-cursor.table c.put_due.new.table c.args.cursors.now c.loop-cursor.cursors c.loop-cursor.cursor-index c.cursor-item.result c.put_due.new.cursor within c.loop-cursor.invariant
    puts.left puts.put puts.seen
