use Rattle.std.proofs.Common.{◌≡◌, rules, w64, to_z, of_z, refl, ap, sym, ◌∙◌}
use Rattle.std.specs.List.{filter_map}
use Rattle.std.proofs.lemmas.Int.{to_z-of_z}
use Rattle.std.proofs.lemmas.List.{take_all}
use Rattle.std.proofs.lemmas.List.Elements.{All-push}
use Rattle.cycle_workers.specs.Eligible.{watched_of}
use Rattle.cycle_workers.specs.Movers.{IsMover}
use Rattle.cycle_workers.proofs.Found.{found_more, none_more}
use Rattle.cycle_workers.proofs.movers.watched.Goals as goal
use Rattle.cycle_workers.proofs.movers.watched.Goals.{in-Some+in_ok-push, in_default}

pub loop-row-preserved : goal.loop-row-preserved
loop-row-preserved c =
    let time : to_z w64 (of_z w64 c.args.f.now.time) ≡ c.args.f.now.time = to_z-of_z w64 c.args.f.now.time (search rules) in
    elim c.match-watched_mover.branch [
      | in-Some+in_ok-push w ↦
          let more = found_more (watched_of c.args.site.now c.args.f.now.time) c.as_slice-rows.result.now c.loop-row.row-index _ w.in-Some.mover c.loop-row-test.true (sym (rw time at w.in-Some.ensures.mover)) in
          record {
            found = rw (w.movers-is, w.in_ok-push.ensures.items, c.loop-row.invariant.found, more) refl;
            each = rw (w.movers-is, w.in_ok-push.ensures.items) (All-push (IsMover c.args.site.now) c.loop-row.movers.items w.in-Some.mover c.loop-row.invariant.each w.in-Some.ensures.range);
          }
      | in_default w ↦
          let same = none_more (watched_of c.args.site.now c.args.f.now.time) c.as_slice-rows.result.now c.loop-row.row-index _ c.loop-row-test.true (sym (rw time at w.in_default.ensures.mover)) in
          record {
            found = rw (w.movers-is, same) c.loop-row.invariant.found;
            each = rw w.movers-is c.loop-row.invariant.each;
          }
    ]

pub returns-clause-movers : goal.returns-clause-movers
returns-clause-movers c =
    let find = filter_map (watched_of c.args.site.now c.args.f.now.time) in
    c.loop-row.invariant.found ∙ ap find (take_all c.loop-row.row-index c.as_slice-rows.result.now c.loop-row-test.false ∙ c.as_slice-rows.ensures)
