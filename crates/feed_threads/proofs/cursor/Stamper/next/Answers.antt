use Rattle.feed_threads.proofs.Stamping.{can_go_on, can_stamp, correction_in}
use Rattle.feed_threads.proofs.cursor.Stamper.next.Goals as goal

pub stamp-stamp-requires : goal.stamp-stamp-requires
stamp-stamp-requires c =
    let from = c.self.inside in
    can_stamp from.clock from.place from.at c.in_ok-track.at from.qnh from.records.now c.in_ok-track.track c.feeds_keep_to_time.ensures.stamp c.self.invariant (rw (correction_in from.qnh c.self.invariant.correction) at c.in_ok-track.ensures.found)

pub invariant_of-self : goal.invariant_of-self
invariant_of-self c =
    let from = c.self.inside in
    can_go_on from.clock c.stamp-stamp.new.self from.place from.at c.in_ok-track.at from.qnh from.records.now c.in_ok-track.track c.stamps_one_by_one.ensures.clock c.self.invariant (rw (correction_in from.qnh c.self.invariant.correction) at c.in_ok-track.ensures.found) c.stamp-stamp.ensures.clock
