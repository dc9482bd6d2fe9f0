use Rattle.std.proofs.Common.{◌≡◌, ◌∙◌, ◌+◌, ◌-◌, ◌<◌, ℕ, suc, add-one, true, false, not, nat_eq, length, List, Option, Err, rules, refl, sym, ap, subst, arith}
use Rattle.std.specs.List.{list_any}
use Rattle.std.proofs.lemmas.List.{length-map, with_items_is}
use Rattle.std.proofs.lemmas.Result.{err_from_is_err_and}
use Rattle.outside_io.specs.Bytes.{AppendsPrefix}
use Rattle.outside_io.specs.Faults.{Rose}
use Rattle.cycle_workers.specs.Settings.{Setting, setting}
use Rattle.site_types.specs.declared.site.Site.{Site}
use Rattle.cycle_engine.specs.Held.{IsTableOf}
use Rattle.cycle_engine.specs.declared.engine.CycleDone.{CycleDone}
use Rattle.cycle_engine.specs.declared.engine.CycleFault.TheVariants.{WriteFault}
use Rattle.track_motion.specs.declared.rank.Stamped.{Stamped}
use Rattle.feed_reader.specs.Content.{Content}
use Rattle.feed_threads.specs.Cycling.{behind_due}
use Rattle.feed_threads.specs.Reference.{alerts, cycles}
use Rattle.feed_threads.proofs.TableLaws.{lawful}
use Rattle.feed_threads.proofs.Making.{AreMade, IsDone, all_made, are_reached, at_err, fault_handed_on, fault_told, freezes, frozen_at, is_table, none_made, nothing_is_prefix, one_more, prefix_cut, prefix_made, stopped}
use Rattle.feed_threads.proofs.Sites.{fresh_held, timed}
use Rattle.feed_threads.proofs.cycles.make_cycles.Goals as goal

pub loop-engine-init : goal.loop-engine-init
loop-engine-init g c =
    let site : Site = c.args.site.now in
    let s : Setting = setting site c.args.terrain.now in
    let inputs : List Content = c.args.inputs.now in
    let is_timed = timed site c.requires.site in
    let laws = lawful site inputs is_timed c.requires.tellable c.stamps_one_by_one.ensures.clock c.feeds_keep_to_time.ensures.window c.windows_of_a_feed.ensures.rising c.windows_of_a_feed.ensures.inside c.feeds_keep_to_time.ensures.earlier
    c.cycles_in_order.ensures c.feeds_are_ranked.ensures c.tables_of_the_same_records.ensures.table c.tables_of_the_same_records.ensures.due c.tables_are_proper.ensures c.cycles_of_records.ensures.each c.cycles_of_records.ensures.few in
    let number : c.in_ok-engine.engine.next ≡ 0 = c.in_ok-engine.ensures.stands.next in
    record {
      made = subst (λ (n : ℕ). AreMade s inputs n c.in_ok-cursors.cursors.items c.new-table.result c.in_ok-engine.engine (record { cycles = 0; firsts = 0; messages = 0 }) (g.K.Sink.taken c.args.out.now) (g.K.Sink.taken c.args.out.now) c.args.steps.now c.args.steps.now) (sym number)
          (none_made s inputs c.in_ok-cursors.cursors.items c.new-table.result c.in_ok-engine.engine (record { cycles = 0; firsts = 0; messages = 0 }) (g.K.Sink.taken c.args.out.now) c.args.steps.now laws c.in_ok-cursors.ensures
          (fresh_held site c.new-table.result is_timed c.new-table.ensures.held) c.new-table.ensures.stands c.in_ok-engine.ensures.setting c.in_ok-engine.ensures.stands refl);
      quiet = refl;
    }

pub returns-in_err-engine-clause-prefix : goal.returns-in_err-engine-clause-prefix
returns-in_err-engine-clause-prefix g c =
    at_err c.from_residual-in_err-engine.result (nothing_is_prefix (g.K.Sink.taken c.args.out.now) (g.K.Sink.taken c.args.out.now) (alerts (setting c.args.site.now c.args.terrain.now) c.args.inputs.now) refl)

pub returns-in_err-put_all_due-clause-prefix : goal.returns-in_err-put_all_due-clause-prefix
returns-in_err-put_all_due-clause-prefix g c =
    let s : Setting = setting c.args.site.now c.args.terrain.now in
    let inputs : List Content = c.args.inputs.now in
    at_err c.from_residual-in_err-put_all_due.result (prefix_made s inputs c.loop-engine.engine.next c.loop-engine.cursors.items c.loop-engine.table c.loop-engine.engine c.loop-engine.made (g.K.Sink.taken c.args.out.now) (g.K.Sink.taken c.loop-engine.out) c.args.steps.now c.loop-engine.steps c.loop-engine.invariant.made)

pub returns-in_err-frozen-clause-prefix : goal.returns-in_err-frozen-clause-prefix
returns-in_err-frozen-clause-prefix g c =
    let s : Setting = setting c.args.site.now c.args.terrain.now in
    let inputs : List Content = c.args.inputs.now in
    at_err c.from_residual-in_err-frozen.result (prefix_made s inputs c.loop-engine.engine.next c.loop-engine.cursors.items c.loop-engine.table c.loop-engine.engine c.loop-engine.made (g.K.Sink.taken c.args.out.now) (g.K.Sink.taken c.loop-engine.out) c.args.steps.now c.loop-engine.steps c.loop-engine.invariant.made)

pub freeze-requires : goal.freeze-requires
freeze-requires g c =
    let some : list_any (λ left. not (nat_eq (length left) 0)) c.deref.result.now ≡ true = sym c.are_left.ensures ∙ c.loop-engine-test.true in
    let reached = are_reached c.next-k.result c.deref.result.now c.deref_mut.result.now c.put_all_due.new.cursors c.put_all_due.new.table c.loop-engine.invariant.made c.next-k.ensures c.deref.ensures.value some c.deref_mut.ensures.value
    c.in_ok-put_all_due.ensures.left c.in_ok-put_all_due.ensures.put c.in_ok-put_all_due.ensures.seen in
    freezes c.next-k.result reached c.next-k.ensures

pub cycle-requires : goal.cycle-requires
cycle-requires g c =
    let some : list_any (λ left. not (nat_eq (length left) 0)) c.deref.result.now ≡ true = sym c.are_left.ensures ∙ c.loop-engine-test.true in
    let reached = are_reached c.next-k.result c.deref.result.now c.deref_mut.result.now c.put_all_due.new.cursors c.put_all_due.new.table c.loop-engine.invariant.made c.next-k.ensures c.deref.ensures.value some c.deref_mut.ensures.value
    c.in_ok-put_all_due.ensures.left c.in_ok-put_all_due.ensures.put c.in_ok-put_all_due.ensures.seen in
    let taken = is_table c.next-k.result c.in_ok-frozen.frozen c.loop-engine.invariant.made.laws reached c.next-k.ensures c.in_ok-frozen.ensures.cycle c.in_ok-frozen.ensures.time c.in_ok-frozen.ensures.rows in
    record { table = subst (λ (of : Setting). IsTableOf of.site c.loop-engine.engine.next c.in_ok-frozen.frozen) (sym c.loop-engine.invariant.made.engine_of_setting) taken.table }

pub returns-in_err-cycle-clause-prefix : goal.returns-in_err-cycle-clause-prefix
returns-in_err-cycle-clause-prefix g c =
    let s : Setting = setting c.args.site.now c.args.terrain.now in
    let inputs : List Content = c.args.inputs.now in
    let some : list_any (λ left. not (nat_eq (length left) 0)) c.deref.result.now ≡ true = sym c.are_left.ensures ∙ c.loop-engine-test.true in
    let reached = are_reached c.next-k.result c.deref.result.now c.deref_mut.result.now c.put_all_due.new.cursors c.put_all_due.new.table c.loop-engine.invariant.made c.next-k.ensures c.deref.ensures.value some c.deref_mut.ensures.value
    c.in_ok-put_all_due.ensures.left c.in_ok-put_all_due.ensures.put c.in_ok-put_all_due.ensures.seen in
    let taken = is_table c.next-k.result c.in_ok-frozen.frozen c.loop-engine.invariant.made.laws reached c.next-k.ensures c.in_ok-frozen.ensures.cycle c.in_ok-frozen.ensures.time c.in_ok-frozen.ensures.rows in
    at_err c.from_residual-in_err-cycle.result
    (stopped c.in_err-cycle.field-0.0
    (λ memory. subst (λ (now : Option (List ℕ)). AppendsPrefix (g.K.Sink.taken c.args.out.now) now (alerts s inputs)) (sym (ap g.K.Sink.taken (c.in_err-cycle.ensures.unwritten memory))) (prefix_made s inputs c.loop-engine.engine.next c.loop-engine.cursors.items c.loop-engine.table c.loop-engine.engine c.loop-engine.made (g.K.Sink.taken c.args.out.now) (g.K.Sink.taken c.loop-engine.out) c.args.steps.now c.loop-engine.steps c.loop-engine.invariant.made))
    (λ write. prefix_cut s inputs c.loop-engine.engine.next c.loop-engine.cursors.items c.loop-engine.table c.in_ok-frozen.frozen c.loop-engine.engine c.loop-engine.made (g.K.Sink.taken c.args.out.now) (g.K.Sink.taken c.loop-engine.out)
    (g.K.Sink.taken c.cycle.new.sink) c.args.steps.now c.loop-engine.steps c.loop-engine.invariant.made reached.more taken (c.in_err-cycle.ensures.prefix write)))

pub returns-in_err-cycle-clause-broken : goal.returns-in_err-cycle-clause-broken
returns-in_err-cycle-clause-broken g c = λ is.
    let p = err_from_is_err_and c.from_residual-in_err-cycle.result c.from_residual-in_err-cycle.ensures.1 in
    subst (λ (n : ℕ). Rose n (g.K.Sink.faults c.cycle.new.sink)) c.loop-engine.invariant.quiet (c.in_err-cycle.ensures.broken (ap Err (fault_handed_on c.from_residual-in_err-cycle.result p.0 c.in_err-cycle.field-0.0 WriteFault p.1 p.2 is)))

pub returns-in_err-cycle-clause-unbroken : goal.returns-in_err-cycle-clause-unbroken
returns-in_err-cycle-clause-unbroken g c = λ other.
    let p = err_from_is_err_and c.from_residual-in_err-cycle.result c.from_residual-in_err-cycle.ensures.1 in
    c.in_err-cycle.ensures.unbroken (λ is. other (p.1 ∙ ap Err (p.2 ∙ fault_told {T = CycleDone} (Err c.in_err-cycle.field-0.0) c.in_err-cycle.field-0.0 WriteFault refl is))) ∙ c.loop-engine.invariant.quiet

pub loop-engine-smaller : goal.loop-engine-smaller
loop-engine-smaller g c =
    let site : Site = c.args.site.now in
    let inputs : List Content = c.args.inputs.now in
    let some : list_any (λ left. not (nat_eq (length left) 0)) c.deref.result.now ≡ true = sym c.are_left.ensures ∙ c.loop-engine-test.true in
    let reached = are_reached c.next-k.result c.deref.result.now c.deref_mut.result.now c.put_all_due.new.cursors c.put_all_due.new.table c.loop-engine.invariant.made c.next-k.ensures c.deref.ensures.value some c.deref_mut.ensures.value
    c.in_ok-put_all_due.ensures.left c.in_ok-put_all_due.ensures.put c.in_ok-put_all_due.ensures.seen in
    let more : c.loop-engine.engine.next < cycles site inputs = reached.more.more in
    let onward : c.cycle.new.self.next ≡ c.loop-engine.engine.next + 1 = c.in_ok-cycle.ensures.onward in
    let fewer : cycles site inputs - c.cycle.new.self.next < cycles site inputs - c.loop-engine.engine.next = omega arith in
    fewer

pub loop-engine-preserved : goal.loop-engine-preserved
loop-engine-preserved g c =
    let site : Site = c.args.site.now in
    let s : Setting = setting site c.args.terrain.now in
    let inputs : List Content = c.args.inputs.now in
    let some : list_any (λ left. not (nat_eq (length left) 0)) c.deref.result.now ≡ true = sym c.are_left.ensures ∙ c.loop-engine-test.true in
    let reached = are_reached c.next-k.result c.deref.result.now c.deref_mut.result.now c.put_all_due.new.cursors c.put_all_due.new.table c.loop-engine.invariant.made c.next-k.ensures c.deref.ensures.value some c.deref_mut.ensures.value
    c.in_ok-put_all_due.ensures.left c.in_ok-put_all_due.ensures.put c.in_ok-put_all_due.ensures.seen in
    let taken = is_table c.next-k.result c.in_ok-frozen.frozen c.loop-engine.invariant.made.laws reached c.next-k.ensures c.in_ok-frozen.ensures.cycle c.in_ok-frozen.ensures.time c.in_ok-frozen.ensures.rows in
    let done = c.in_ok-cycle.ensures in
    let does : IsDone c.loop-engine.engine.next c.in_ok-frozen.frozen c.loop-engine.engine c.cycle.new.self c.in_ok-cycle.field-0 (g.K.Sink.taken c.loop-engine.out) (g.K.Sink.taken c.cycle.new.sink) c.loop-engine.steps c.cycle.new.steps =
    record { bytes = done.bytes; stands = done.stands; came_to = done.done; count = done.counted; onward = done.onward; of_setting = done.setting } in
    let long : length c.put_all_due.new.cursors ≡ c.loop-engine.cursors.len =
    ap length c.in_ok-put_all_due.ensures.left ∙ length-map c.deref_mut.result.now (behind_due c.next-k.result) ∙ ap length c.deref_mut.ensures.value ∙ sym c.loop-engine.cursors.ok.0 in
    let written = with_items_is c.loop-engine.cursors c.put_all_due.new.cursors long in
    let number : suc c.loop-engine.engine.next ≡ c.cycle.new.self.next = sym (done.onward ∙ add-one c.loop-engine.engine.next) in
    let next = one_more s inputs c.loop-engine.engine.next c.loop-engine.cursors.items c.put_all_due.new.cursors c.loop-engine.table c.put_all_due.new.table c.freeze.new.self c.in_ok-frozen.frozen c.loop-engine.engine c.cycle.new.self c.loop-engine.made
    c.with_cycle-made.result c.in_ok-cycle.field-0 (g.K.Sink.taken c.args.out.now) (g.K.Sink.taken c.loop-engine.out) (g.K.Sink.taken c.cycle.new.sink) c.args.steps.now c.loop-engine.steps c.cycle.new.steps (timed site c.requires.site)
    c.loop-engine.invariant.made reached.more reached.put
    (frozen_at c.loop-engine.engine.next c.next-k.result c.put_all_due.new.table c.freeze.new.self c.next-k.ensures c.in_ok-frozen.ensures.others) c.in_ok-frozen.ensures.stands taken does c.with_cycle-made.ensures in
    record {
      made = subst (λ (items : List (List Stamped)). AreMade s inputs c.cycle.new.self.next items c.freeze.new.self c.cycle.new.self c.with_cycle-made.result (g.K.Sink.taken c.args.out.now) (g.K.Sink.taken c.cycle.new.sink) c.args.steps.now c.cycle.new.steps) (sym written)
          (subst (λ (n : ℕ). AreMade s inputs n c.put_all_due.new.cursors c.freeze.new.self c.cycle.new.self c.with_cycle-made.result (g.K.Sink.taken c.args.out.now) (g.K.Sink.taken c.cycle.new.sink) c.args.steps.now c.cycle.new.steps) number next);
      quiet = search rules;
    }

pub returns-clause-alerts : goal.returns-clause-alerts
returns-clause-alerts g c =
    let s : Setting = setting c.args.site.now c.args.terrain.now in
    let inputs : List Content = c.args.inputs.now in
    let none : list_any (λ left. not (nat_eq (length left) 0)) c.loop-engine.cursors.items ≡ false = subst (λ (ls : List (List Stamped)). list_any (λ left. not (nat_eq (length left) 0)) ls ≡ false) c.deref.ensures.value (sym c.are_left.ensures ∙ c.loop-engine-test.false) in
    let ends = all_made s inputs c.loop-engine.engine.next c.loop-engine.cursors.items c.loop-engine.table c.loop-engine.engine c.loop-engine.made (g.K.Sink.taken c.args.out.now) (g.K.Sink.taken c.loop-engine.out) c.args.steps.now c.loop-engine.steps
    c.loop-engine.invariant.made none in
    ends.bytes

pub returns-clause-made : goal.returns-clause-made
returns-clause-made g c =
    let s : Setting = setting c.args.site.now c.args.terrain.now in
    let inputs : List Content = c.args.inputs.now in
    let none : list_any (λ left. not (nat_eq (length left) 0)) c.loop-engine.cursors.items ≡ false = subst (λ (ls : List (List Stamped)). list_any (λ left. not (nat_eq (length left) 0)) ls ≡ false) c.deref.ensures.value (sym c.are_left.ensures ∙ c.loop-engine-test.false) in
    let ends = all_made s inputs c.loop-engine.engine.next c.loop-engine.cursors.items c.loop-engine.table c.loop-engine.engine c.loop-engine.made (g.K.Sink.taken c.args.out.now) (g.K.Sink.taken c.loop-engine.out) c.args.steps.now c.loop-engine.steps
    c.loop-engine.invariant.made none in
    ends.came_to

pub returns-clause-counted : goal.returns-clause-counted
returns-clause-counted g c =
    let s : Setting = setting c.args.site.now c.args.terrain.now in
    let inputs : List Content = c.args.inputs.now in
    let none : list_any (λ left. not (nat_eq (length left) 0)) c.loop-engine.cursors.items ≡ false = subst (λ (ls : List (List Stamped)). list_any (λ left. not (nat_eq (length left) 0)) ls ≡ false) c.deref.ensures.value (sym c.are_left.ensures ∙ c.loop-engine-test.false) in
    let ends = all_made s inputs c.loop-engine.engine.next c.loop-engine.cursors.items c.loop-engine.table c.loop-engine.engine c.loop-engine.made (g.K.Sink.taken c.args.out.now) (g.K.Sink.taken c.loop-engine.out) c.args.steps.now c.loop-engine.steps
    c.loop-engine.invariant.made none in
    ends.counted
