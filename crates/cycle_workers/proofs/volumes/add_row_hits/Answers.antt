use Rattle.std.proofs.Common.{◌≡◌, ◌∙◌, ◌≤◌, ◌++◌, length, get_or, sym, ap, append_assoc, arith, w64, to_z, of_z}
use Rattle.std.specs.List.{filter_map}
use Rattle.std.proofs.lemmas.Int.{ints, to_z-of_z}
use Rattle.std.proofs.lemmas.List.{take_all}
use Rattle.std.proofs.lemmas.List.Elements.{All-push}
use Rattle.alert_states.specs.Figures.{FitsOctets}
use Rattle.cycle_workers.specs.Hits.{apw_hit_by, numbered}
use Rattle.cycle_workers.proofs.Found.{found_more, none_more}
use Rattle.cycle_workers.proofs.ByObject.{get_numbered, length_numbered}
use Rattle.cycle_workers.proofs.volumes.add_row_hits.Goals as goal
use Rattle.cycle_workers.proofs.volumes.add_row_hits.Goals.{in-Some+in_ok-push, in_default}

pub number_of-requires : goal.number_of-requires
number_of-requires c =
    let many = c.requires.areas.count.high in
    let before = c.loop-i-test.true in
    omega (arith, ints)

pub loop-i-preserved : goal.loop-i-preserved
loop-i-preserved c =
    let time = to_z w64 (of_z w64 c.args.time) in
    let find = apw_hit_by time c.args.set.now c.args.m.now in
    let volumes = c.args.areas.now in
    let i = c.loop-i.i in
    let volume = c.index-areas-i.result in
    let long = length_numbered volumes in
    let at : get_or (numbered volumes) i (0, volume) ≡ (i, volume) = get_numbered volumes i volume c.loop-i-test.true ∙ ap (λ v. (i, v)) (sym c.index-areas-i.is) in
    let hit = rw c.number_of.ensures at c.in_ok-hit.ensures.hit in
    let here = ap find at ∙ sym hit in
    elim c.match-branch-2.branch [
      | in-Some+in_ok-push w ↦
          let more = found_more find (numbered volumes) i (0, volume) w.in-Some.hit (omega arith) (here ∙ w.in-Some.is) in
          record {
            found = rw (w.hits-is, w.in_ok-push.ensures.items, c.loop-i.invariant.found, more, append_assoc);
            room = rw (w.hits-is, w.in_ok-push.ensures.items) (All-push (λ h. FitsOctets h.figures) c.loop-i.hits.items w.in-Some.hit c.loop-i.invariant.room (rw w.in-Some.is at c.in_ok-hit.ensures.room));
          }
      | in_default w ↦
          let same = none_more find (numbered volumes) i (0, volume) (omega arith) (here ∙ w.in_default.is) in
          record {
            found = rw (w.hits-is, same) c.loop-i.invariant.found;
            room = rw w.hits-is c.loop-i.invariant.room;
          }
    ]

pub returns-clause-hits : goal.returns-clause-hits
returns-clause-hits c =
    let time : to_z w64 (of_z w64 c.args.time) ≡ c.args.time = to_z-of_z w64 c.args.time c.ranges.time in
    let find = filter_map (apw_hit_by c.args.time c.args.set.now c.args.m.now) in
    let long = length_numbered c.args.areas.now in
    let end : length c.args.areas.now ≤ c.loop-i.i = c.loop-i-test.false in
    let all = ap find (take_all c.loop-i.i (numbered c.args.areas.now) (omega arith)) in
    (rw time at c.loop-i.invariant.found) ∙ ap (λ hits. c.args.hits.now.items ++ hits) all
