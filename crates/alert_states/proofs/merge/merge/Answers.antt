use Rattle.std.proofs.Common.{◌≡◌, ◌+◌, arith, length-drop}
use Rattle.alert_states.specs.Steps.{begun_in}
use Rattle.alert_states.proofs.Merging.{count_step, kept_step, rest_of, told_step}
use Rattle.alert_states.proofs.merge.merge.Goals as goal

pub loop-next-preserved : goal.loop-next-preserved
loop-next-preserved c =
    let at = c.loop-next in
    let next = c.in-Some.next in
    let so_far = at.invariant in
    let entries = c.args.entries.now in
    let hits = c.args.hits.now in
    let confirms = c.args.confirm.now in
    let entries_left = rw (rest_of at.entry entries) at c.in-Some.ensures.entries in
    let hits_left = rw (rest_of at.hit hits) at c.in-Some.ensures.hits in
    let moved = c.in-Some.ensures.some in
    let first = rw (rest_of at.entry entries, rest_of at.hit hits) at c.in-Some.ensures.first in
    let from : c.from.result ≡ c.args.firsts = c.from.ensures in
    let kept = rw from at c.put-begun.ensures.kept in
    let events = rw from at c.put-begun.ensures.events in
    let begun : c.put-begun.result ≡ begun_in confirms (c.args.firsts + at.begun) next.update = c.put-begun.ensures.begun in
    record {
      entry_in = omega (arith, length-drop at.entry entries);
      hit_in = omega (arith, length-drop at.hit hits);
      begun_in = omega (arith, c.put-begun.ensures.one);
      kept_room = omega (arith, c.put-begun.ensures.kept_len, c.put-begun.ensures.kept_capacity);
      events_room = omega (arith, c.put-begun.ensures.events_len, c.put-begun.ensures.events_capacity);
      kept = kept_step confirms c.args.firsts at.begun c.put-begun.result at.entry at.hit next.entries next.hits entries hits next.update at.kept.items c.put-begun.new.kept.items _ first kept begun so_far.kept;
      events = told_step confirms c.args.firsts at.begun c.put-begun.result at.entry at.hit next.entries next.hits entries hits next.update at.events.items c.put-begun.new.events.items _ first events begun so_far.events;
      begun = count_step confirms c.args.firsts at.begun c.put-begun.result at.entry at.hit next.entries next.hits _ entries hits next.update first begun so_far.begun;
    }
