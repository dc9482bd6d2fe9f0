use Rattle.std.proofs.Common.{◌≡◌, ◌∙◌, ◌≤◌, ◌++◌, length, get_or, sym, ap, append_assoc, arith}
use Rattle.std.specs.List.{filter_map}
use Rattle.std.proofs.lemmas.Int.{ints}
use Rattle.std.proofs.lemmas.List.{take_all}
use Rattle.std.proofs.lemmas.List.Elements.{All-push}
use Rattle.alert_states.specs.Figures.{FitsOctets}
use Rattle.cycle_workers.specs.Hits.{apm_hit_by, numbered}
use Rattle.cycle_workers.proofs.Found.{found_more, none_more}
use Rattle.cycle_workers.proofs.ByObject.{get_numbered, length_numbered}
use Rattle.cycle_workers.proofs.funnels.add_row_hits.Goals as goal
use Rattle.cycle_workers.proofs.funnels.add_row_hits.Goals.{in-Some+in_ok-push, in_default}

pub number_of-requires : goal.number_of-requires
number_of-requires c =
    let many = c.requires.approaches.count.high in
    let before = c.loop-i-test.true in
    omega (arith, ints)

pub loop-i-preserved : goal.loop-i-preserved
loop-i-preserved c =
    let find = apm_hit_by c.args.set.now c.args.m.now in
    let funnels = c.args.approaches.now in
    let i = c.loop-i.i in
    let funnel = c.index-approaches-i.result in
    let long = length_numbered funnels in
    let at : get_or (numbered funnels) i (0, funnel) ≡ (i, funnel) = get_numbered funnels i funnel c.loop-i-test.true ∙ ap (λ f. (i, f)) (sym c.index-approaches-i.is) in
    elim c.match-examine_funnel.branch [
      | in-Some+in_ok-push w ↦
          let here = ap find at ∙ sym (rw c.number_of.ensures at w.in-Some.ensures.hit) in
          let more = found_more find (numbered funnels) i (0, funnel) w.in-Some.hit (omega arith) here in
          record {
            found = rw (w.hits-is, w.in_ok-push.ensures.items, c.loop-i.invariant.found, more, append_assoc);
            room = rw (w.hits-is, w.in_ok-push.ensures.items) (All-push (λ h. FitsOctets h.figures) c.loop-i.hits.items w.in-Some.hit c.loop-i.invariant.room w.in-Some.ensures.room);
          }
      | in_default w ↦
          let here = ap find at ∙ sym (rw c.number_of.ensures at w.in_default.ensures.hit) in
          let same = none_more find (numbered funnels) i (0, funnel) (omega arith) here in
          record {
            found = rw (w.hits-is, same) c.loop-i.invariant.found;
            room = rw w.hits-is c.loop-i.invariant.room;
          }
    ]

pub returns-clause-hits : goal.returns-clause-hits
returns-clause-hits c =
    let find = filter_map (apm_hit_by c.args.set.now c.args.m.now) in
    let long = length_numbered c.args.approaches.now in
    let end : length c.args.approaches.now ≤ c.loop-i.i = c.loop-i-test.false in
    c.loop-i.invariant.found ∙ ap (λ hits. c.args.hits.now.items ++ hits) (ap find (take_all c.loop-i.i (numbered c.args.approaches.now) (omega arith)))
