use Rattle.std.proofs.Common.{◌≡◌, ◌+◌, ◌<◌, ℕ, true, false, length, get_or, set, drop, Ok, Err, ◌∙◌, sym, refl, subst, arith, length-set}
use Rattle.std.proofs.lemmas.List.{drop-drop}
use Rattle.std.proofs.lemmas.Result.{err_from_is_err_and}
use Rattle.asterix_fields.specs.declared.tables.Form.TheVariants.{Spare}
use Rattle.asterix_fields.specs.Spelling.{is_named}
use Rattle.asterix_fields.specs.Faults.{item_at, named_at}
use Rattle.asterix_fields.proofs.PresenceBits.{behind_none}
use Rattle.asterix_fields.proofs.Steps.{items_from, items_start, items_stop, items_next, items_done}
use Rattle.asterix_fields.proofs.walking.item_spans.Goals.{then-names_first+in_ok-size, else-names_first}
use Rattle.asterix_fields.proofs.walking.item_spans.Goals as goal

pub loop-index-init : goal.loop-index-init
loop-index-init g c = record { inside = c.requires.inside; whole = let n = c.told-uap in let m = c.told-spans in omega arith; same = λ fspec tells. refl; tells = λ fspec tells. behind_none c.args.bits fspec tells }

pub item_length-requires-clause-inside : goal.item_length-requires-clause-inside
item_length-requires-clause-inside g c = c.loop-index.invariant.inside

pub returns-in_err-size-clause-value : goal.returns-in_err-size-clause-value
returns-in_err-size-clause-value g c = λ fspec tells.
    let p = err_from_is_err_and c.from_residual.result c.from_residual.ensures.1 in
    let at = c.loop-index.end in
    let rest = drop at c.args.bytes.now in
    let within : c.loop-index.index < length c.args.uap.now = let e = c.told-uap in let h = c.loop-index-test.true in omega arith in
    let here : is_named fspec (c.loop-index.index + 1) ≡ true = sym (c.names_first.ensures c.loop-index.index fspec (c.loop-index.invariant.tells fspec tells)) ∙ c.if-names_first.true in
    let stopped : named_at (item_at c.args.subs.now) fspec (c.loop-index.index + 1) (get_or c.args.uap.now c.loop-index.index Spare) rest ≡ Err c.in_err-size.field-0.0 = rw here (sym c.in_err-size.ensures.value) in
    rw (p.1, p.2) (sym (items_start c.args.subs.now fspec c.args.uap.now c.args.spans.now c.args.start (drop c.args.start c.args.bytes.now)) ∙ sym (c.loop-index.invariant.same fspec tells)
    ∙ items_stop c.args.subs.now fspec c.args.uap.now c.loop-index.spans c.loop-index.index at rest c.in_err-size.field-0.0 within stopped)

pub overflow_cast-at : goal.overflow_cast-at
overflow_cast-at g c = let inside = c.loop-index.invariant.inside in let room = c.requires.room in omega arith

pub loop-index-preserved : goal.loop-index-preserved
loop-index-preserved g c =
    let within : c.loop-index.index < length c.args.uap.now = let e = c.told-uap in let h = c.loop-index-test.true in omega arith in
    let at = c.loop-index.end in
    let rest = drop at c.args.bytes.now in
    elim c.if-names_first.branch [
      | then-names_first+in_ok-size w ↦
          let size = w.in_ok-size.size in
          rw (w.spans-is, w.end-is) (record {
            inside = w.in_ok-size.ensures.within;
            whole = length-set c.loop-index.spans c.loop-index.index _ ∙ c.loop-index.invariant.whole;
            same = λ fspec tells.
                let here : is_named fspec (c.loop-index.index + 1) ≡ true = sym (c.names_first.ensures c.loop-index.index fspec (c.loop-index.invariant.tells fspec tells)) ∙ w.if-names_first.true in
                let found : named_at (item_at c.args.subs.now) fspec (c.loop-index.index + 1) (get_or c.args.uap.now c.loop-index.index Spare) rest ≡ Ok size = rw here (sym w.in_ok-size.ensures.value) in
                let next = items_next c.args.subs.now fspec c.args.uap.now c.loop-index.spans c.loop-index.index at rest size within c.loop-index.invariant.whole found in
                rw (← drop-drop size at c.args.bytes.now) (sym next ∙ c.loop-index.invariant.same fspec tells);
            tells = λ fspec tells. c.behind_first-left.ensures c.loop-index.index fspec (c.loop-index.invariant.tells fspec tells);
          })
      | else-names_first w ↦
          rw (w.spans-is, w.end-is) (record {
            inside = c.loop-index.invariant.inside;
            whole = length-set c.loop-index.spans c.loop-index.index _ ∙ c.loop-index.invariant.whole;
            same = λ fspec tells.
                let here : is_named fspec (c.loop-index.index + 1) ≡ false = sym (c.names_first.ensures c.loop-index.index fspec (c.loop-index.invariant.tells fspec tells)) ∙ w.if-names_first.false in
                let found : named_at (item_at c.args.subs.now) fspec (c.loop-index.index + 1) (get_or c.args.uap.now c.loop-index.index Spare) rest ≡ Ok 0 = rw here refl in
                let next = items_next c.args.subs.now fspec c.args.uap.now c.loop-index.spans c.loop-index.index at rest 0 within c.loop-index.invariant.whole found in
                let still : at + 0 ≡ at = omega arith in
                subst (λ (n : ℕ). items_from c.args.subs.now fspec c.args.uap.now (set c.loop-index.spans c.loop-index.index (record { at = at; len = 0 })) (c.loop-index.index + 1) n rest
                ≡ items_from c.args.subs.now fspec c.args.uap.now c.args.spans.now 0 c.args.start (drop c.args.start c.args.bytes.now)) still (sym next ∙ c.loop-index.invariant.same fspec tells);
            tells = λ fspec tells. c.behind_first-left.ensures c.loop-index.index fspec (c.loop-index.invariant.tells fspec tells);
          })
    ]

pub returns-clause-value : goal.returns-clause-value
returns-clause-value g c = λ fspec tells.
    let rest = drop c.loop-index.end c.args.bytes.now in
    sym (items_start c.args.subs.now fspec c.args.uap.now c.args.spans.now c.args.start (drop c.args.start c.args.bytes.now)) ∙ sym (c.loop-index.invariant.same fspec tells)
    ∙ items_done c.args.subs.now fspec c.args.uap.now c.loop-index.spans c.loop-index.index c.loop-index.end rest (let e = c.told-uap in let h = c.loop-index-test.false in omega arith) c.loop-index.invariant.whole

pub returns-clause-within : goal.returns-clause-within
returns-clause-within g c = c.loop-index.invariant.inside
