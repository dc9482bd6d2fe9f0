use Rattle.std.proofs.Common.{sym, append_assoc, arith}
use Rattle.std.proofs.lemmas.List.Elements.{All-push}
use Rattle.alert_states.specs.Figures.{FitsOctets}
use Rattle.cycle_workers.specs.Hits.{hit_of}
use Rattle.cycle_workers.proofs.Found.{found_more, none_more}
use Rattle.cycle_workers.proofs.hits.add_hits.Goals as goal
use Rattle.cycle_workers.proofs.hits.add_hits.Goals.{in-Some+in_ok-push, in_default}

pub loop-b-preserved : goal.loop-b-preserved
loop-b-preserved g c =
    let so_far = c.loop-b.invariant.counted in
    let one = c.examine_pair.ensures.step in
    elim c.match-examine_pair.branch [
      | in-Some+in_ok-push w ↦
          let more = found_more (hit_of c.args.site.now c.args.a.now) c.args.others.now c.loop-b.b-index _ w.in-Some.hit c.loop-b-test.true (sym w.in-Some.ensures.hit) in
          record {
            found = rw (w.hits-is, w.in_ok-push.ensures.items, c.loop-b.invariant.found, more, append_assoc);
            room = rw (w.hits-is, w.in_ok-push.ensures.items) (All-push (λ h. FitsOctets h.figures) c.loop-b.hits.items w.in-Some.hit c.loop-b.invariant.room w.in-Some.ensures.room);
            counted = omega arith;
          }
      | in_default w ↦
          let same = none_more (hit_of c.args.site.now c.args.a.now) c.args.others.now c.loop-b.b-index _ c.loop-b-test.true (sym w.in_default.ensures.hit) in
          record {
            found = rw (w.hits-is, same) c.loop-b.invariant.found;
            room = rw w.hits-is c.loop-b.invariant.room;
            counted = omega arith;
          }
    ]
