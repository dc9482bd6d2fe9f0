use Rattle.std.proofs.Common.{◌≡◌, ◌+◌, ◌-◌, ◌<◌, ◌≤◌, length, get_or, drop, Ok, Err, None, ◌∙◌, sym, arith}
use Rattle.std.proofs.lemmas.List.{drop-drop}
use Rattle.std.proofs.lemmas.Grind.{common_steps}
use Rattle.std.proofs.lemmas.Option.{gets}
use Rattle.std.proofs.lemmas.Result.{err_from_is_err_and}
use Rattle.asterix_fields.specs.declared.tables.Form.TheVariants.{Spare}
use Rattle.asterix_fields.specs.Faults.{first_named, simple_at}
use Rattle.asterix_fields.proofs.Steps.{subfields_start}
use Rattle.asterix_fields.proofs.SubfieldLaws.{subfields_named, subfields_fail, subfields_beyond, subfields_last}
use Rattle.asterix_fields.proofs.items.subfields_end.Goals as goal

pub returns-in_err-at-in-Some-get-clause-value : goal.returns-in_err-at-in-Some-get-clause-value
returns-in_err-at-in-Some-get-clause-value c = λ presence tells.
    let p = err_from_is_err_and c.from_residual.result c.from_residual.ensures.1 in
    let rest = drop c.loop-number.at c.args.bytes.now in
    let number = c.in-Some.number in
    let within : number - 1 < length c.args.rows.now = grind (arith, common_steps, gets, c.in-Some-get.ensures.lookup, c.in-Some-get.is) in
    let row : get_or c.args.rows.now (number - 1) Spare ≡ c.in-Some-get.row.now = grind (arith, common_steps, gets, c.in-Some-get.ensures.lookup, c.in-Some-get.is) in
    let stopped : simple_at c.args.frn (get_or c.args.rows.now (number - 1) Spare) rest ≡ Err c.in_err-at-in-Some-get.field-0.0 = rw row (sym c.in_err-at-in-Some-get.ensures.value) in
    rw (p.1, p.2) (sym (subfields_fail c.args.frn presence c.args.rows.now c.loop-number.done number c.loop-number.at rest c.in_err-at-in-Some-get.field-0.0 (sym (c.in-Some.ensures.value presence tells)) within stopped)
    ∙ c.loop-number.invariant.same presence tells ∙ subfields_start c.args.frn presence c.args.rows.now c.args.start (drop c.args.start c.args.bytes.now))

pub returns-in-None-clause-value : goal.returns-in-None-clause-value
returns-in-None-clause-value c = λ presence tells.
    let rest = drop c.loop-number.at c.args.bytes.now in
    let past : length c.args.rows.now ≤ c.in-Some.number - 1 = grind (arith, common_steps, gets, c.in-None.ensures.lookup, c.in-None.is) in
    sym (subfields_beyond c.args.frn presence c.args.rows.now c.loop-number.done c.in-Some.number c.loop-number.at rest (sym (c.in-Some.ensures.value presence tells)) past)
    ∙ c.loop-number.invariant.same presence tells ∙ subfields_start c.args.frn presence c.args.rows.now c.args.start (drop c.args.start c.args.bytes.now)

pub loop-number-preserved : goal.loop-number-preserved
loop-number-preserved c = record {
  inside = c.in_ok-at-in-Some-get.ensures.within;
  few = c.in-Some.ensures.past.few;
  same = λ presence tells.
      let at = c.loop-number.at in
      let size = c.in_ok-at-in-Some-get.field-0 in
      let rest = drop at c.args.bytes.now in
      let number = c.in-Some.number in
      let within : number - 1 < length c.args.rows.now = grind (arith, common_steps, gets, c.in-Some-get.ensures.lookup, c.in-Some-get.is) in
      let row : get_or c.args.rows.now (number - 1) Spare ≡ c.in-Some-get.row.now = grind (arith, common_steps, gets, c.in-Some-get.ensures.lookup, c.in-Some-get.is) in
      let found : simple_at c.args.frn (get_or c.args.rows.now (number - 1) Spare) rest ≡ Ok size = rw row (sym c.in_ok-at-in-Some-get.ensures.value) in
      let next = subfields_named c.args.frn presence c.args.rows.now c.loop-number.done number at size rest (sym (c.in-Some.ensures.value presence tells)) within found in
      rw (← drop-drop size at c.args.bytes.now) (sym next ∙ c.loop-number.invariant.same presence tells);
}

pub returns-clause-value : goal.returns-clause-value
returns-clause-value c = λ presence tells.
    let rest = drop c.loop-number.at c.args.bytes.now in
    let none : first_named presence (35 - c.loop-number.done) (c.loop-number.done + 1) ≡ None = sym (c.in_default.ensures.value presence tells) in
    sym (subfields_last c.args.frn presence c.args.rows.now c.loop-number.done c.loop-number.at rest tells.few none)
    ∙ c.loop-number.invariant.same presence tells ∙ subfields_start c.args.frn presence c.args.rows.now c.args.start (drop c.args.start c.args.bytes.now)
