use Rattle.std.proofs.Common.{◌≡◌, ◌∙◌, refl, sym, true, false, get_or}
use Rattle.std.proofs.lemmas.List.Elements.{All-push}
use Rattle.cycle_workers.specs.Eligible.{if_enabled, is_enabled}
use Rattle.cycle_workers.specs.Movers.{IsMover}
use Rattle.cycle_workers.proofs.Found.{found_more, none_more}
use Rattle.cycle_workers.proofs.Pairs.{no_mover}
use Rattle.cycle_workers.proofs.movers.enabled.Goals as goal
use Rattle.cycle_workers.proofs.movers.enabled.Goals.{then-is_enabled+in_ok-push, else-is_enabled}

pub loop-mover-preserved : goal.loop-mover-preserved
loop-mover-preserved c =
    let site = c.args.site.now in
    let net = c.args.net in
    let all = c.args.all.now in
    let i = c.loop-mover.mover-index in
    let m = get_or all i no_mover in
    elim c.if-is_enabled.branch [
      | then-is_enabled+in_ok-push w ↦
          let yes : is_enabled site net m.set ≡ true = sym c.is_enabled.ensures ∙ w.if-is_enabled.true in
          let more = found_more (if_enabled site net) all i no_mover m c.loop-mover-test.true (rw yes refl) in
          record {
            found = rw (w.movers-is, w.in_ok-push.ensures.items, c.loop-mover.invariant.found, more) refl;
            each = rw (w.movers-is, w.in_ok-push.ensures.items) (All-push (IsMover site) c.loop-mover.movers.items m c.loop-mover.invariant.each (c.requires.all i no_mover c.loop-mover-test.true));
          }
      | else-is_enabled w ↦
          let no : is_enabled site net m.set ≡ false = sym c.is_enabled.ensures ∙ w.if-is_enabled.false in
          let same = none_more (if_enabled site net) all i no_mover c.loop-mover-test.true (rw no refl) in
          record {
            found = rw (w.movers-is, same) c.loop-mover.invariant.found;
            each = rw w.movers-is c.loop-mover.invariant.each;
          }
    ]
