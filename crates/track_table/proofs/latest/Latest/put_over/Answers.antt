use Rattle.std.proofs.Common.{◌≡◌, true, List, Option, None, Some, is_some, refl, ap, sym, subst, ◌∙◌}
use Rattle.std.specs.BTreeMap.{insert_entry}
use Rattle.std.specs.List.{IsDistinct}
use Rattle.std.specs.Map.{keys_of, set_value}
use Rattle.track_motion.specs.declared.rank.Stamped.{Stamped}
use Rattle.track_motion.specs.declared.track.TrackKey.{TrackKey}
use Rattle.track_motion.specs.Keys.{key_cmp}
use Rattle.track_table.specs.declared.table.Put.{Put}
use Rattle.track_table.specs.declared.table.Put.TheVariants.{Kept, Superseded}
use Rattle.track_table.specs.Kept.{told_of}
use Rattle.track_table.specs.KeyOrder.{AreKeyed, key_eq}
use Rattle.track_table.proofs.KeyOrder.{found_by_fields, keyed_written, order_put}
use Rattle.track_table.proofs.Newest.{found}
use Rattle.track_table.proofs.latest.Latest.put_over.Goals as goal

-- the records stay keyed where one is written and where none is
keyed_by : (put : Option Put) (s : Stamped) (es fs : List (TrackKey × Stamped)) → (put ≡ Some Kept → (fs ≡ set_value (key_eq s.track.key) es s) × IsDistinct key_eq (keys_of fs)) → ((put ≡ Some Kept → ⊥) → fs ≡ es) →
    AreKeyed es → AreKeyed fs
keyed_by None s es fs written same keyed = subst AreKeyed (sym (same (λ e. cc))) keyed
keyed_by (Some Kept) s es fs written same keyed = let here = written refl in keyed_written s es fs here.0 here.1 keyed
keyed_by (Some (Superseded r)) s es fs written same keyed = subst AreKeyed (sym (same (λ e. cc))) keyed

pub invariant_of-self : goal.invariant_of-self
invariant_of-self c =
    keyed_by c.put_over.result c.args.s.now c.self.inside.records.entries c.put_over.new.records.entries
    (λ is. let here = c.put_over.ensures.written is in (here.0, here.4)) c.put_over.ensures.same c.self.invariant

pub returns-clause-answer : goal.returns-clause-answer
returns-clause-answer c =
    let key = c.args.s.now.track.key in
    c.put_over.ensures.answer ∙ ap (told_of c.args.s.now) (found_by_fields key c.self.inside.records.entries ∙ ap (found key) c.self.view_is)

-- a record is written over one that is there
there : (s : Stamped) (o : Option Stamped) → Some Kept ≡ told_of s o → is_some o ≡ true
there s None is = absurd (cc)
there s (Some r) is = refl

pub returns-clause-written : goal.returns-clause-written
returns-clause-written c = λ is.
    let s = c.args.s.now in
    let here = c.put_over.ensures.written is in
    order_put s c.self.inside.records.entries c.put_over.new.records.entries (here.3 (there s _ (sym is ∙ c.put_over.ensures.answer))).0
    ∙ ap (λ (es : List (TrackKey × Stamped)). insert_entry key_cmp es s.track.key s) c.self.view_is
