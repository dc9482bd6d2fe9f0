use Rattle.std.proofs.Common.{◌≡◌}
use Rattle.track_table.specs.Stamps.{clock_at_start}
use Rattle.feed_threads.proofs.Sites.{correction_is, period_is, start_is}
use Rattle.feed_threads.proofs.Stamping.{can_begin}
use Rattle.feed_threads.proofs.cursor.Stamper.new.Goals as goal

pub invariant_of-result : goal.invariant_of-result
invariant_of-result c =
    let timed = c.requires.site in
    let records = c.records.ensures in
    let begins : c.new.result ≡ clock_at_start c.args.site.now.start c.args.site.now.period = rw (start_is c.args.site.now timed, period_is c.args.site.now timed) at c.new.ensures in
    rw records (can_begin c.args.site.now c.new.result _ c.args.input.now.records timed begins (correction_is c.args.site.now timed) c.requires.tellable.placed c.requires.tellable.few)
