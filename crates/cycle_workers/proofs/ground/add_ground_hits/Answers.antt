use Rattle.std.proofs.Common.{◌≡◌, ◌∙◌, [], ◌∷◌, ◌++◌, Some, None, get_or, drop, ◌+◌, sym, ap, append_assoc}
use Rattle.std.specs.List.{cons_option}
use Rattle.std.proofs.lemmas.List.{append-nil}
use Rattle.std.proofs.lemmas.List.Elements.{All-push}
use Rattle.std.proofs.Math.ListN.{drop_of_length-le}
use Rattle.alert_states.specs.Figures.{FitsOctets}
use Rattle.cycle_workers.specs.Hits.{hits_by, msaw_hit_by}
use Rattle.cycle_workers.proofs.ByObject.{rows_left}
use Rattle.cycle_workers.proofs.ground.add_ground_hits.Goals as goal
use Rattle.cycle_workers.proofs.ground.add_ground_hits.Goals.{in-Some+in_ok-push, in_default}

pub loop-m-preserved : goal.loop-m-preserved
loop-m-preserved c =
    let site = c.args.site.now in
    let over = c.args.ground.now ∷ [] in
    let rest = hits_by site msaw_hit_by over (drop (c.loop-m.m-index + 1) c.args.movers.now) in
    let more = rows_left site msaw_hit_by over c.args.movers.now c.loop-m.m-index c.set_of.result.now c.loop-m-test.true c.set_of.ensures.one in
    elim c.match-examine_ground.branch [
      | in-Some+in_ok-push w ↦
          let one = ap (λ found. cons_option found [] ++ rest) (sym w.in-Some.ensures.hit) in
          record {
            found = rw (w.hits-is, w.in_ok-push.ensures.items, append_assoc) (ap (λ hits. c.loop-m.hits.items ++ hits) (sym (more ∙ one)) ∙ c.loop-m.invariant.found);
            room = rw (w.hits-is, w.in_ok-push.ensures.items) (All-push (λ h. FitsOctets h.figures) c.loop-m.hits.items w.in-Some.hit c.loop-m.invariant.room w.in-Some.ensures.room);
          }
      | in_default w ↦
          let none = ap (λ found. cons_option found [] ++ rest) (sym w.in_default.ensures.hit) in
          record {
            found = rw w.hits-is (ap (λ hits. c.loop-m.hits.items ++ hits) (sym (more ∙ none)) ∙ c.loop-m.invariant.found);
            room = rw w.hits-is c.loop-m.invariant.room;
          }
    ]

pub returns-clause-hits : goal.returns-clause-hits
returns-clause-hits c =
    let none = ap (hits_by c.args.site.now msaw_hit_by (c.args.ground.now ∷ [])) (drop_of_length-le c.args.movers.now c.loop-m-test.false) in
    sym (ap (λ hits. c.loop-m.hits.items ++ hits) none ∙ append-nil c.loop-m.hits.items) ∙ c.loop-m.invariant.found
