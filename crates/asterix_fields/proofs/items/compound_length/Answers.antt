use Rattle.std.proofs.Common.{sym, take}
use Rattle.std.proofs.lemmas.Result.{err_from_is_err_and}
use Rattle.asterix_fields.proofs.Steps.{compound_stop, compound_next}
use Rattle.asterix_fields.proofs.items.compound_length.Goals as goal

pub returns-in_err-primary-clause-value : goal.returns-in_err-primary-clause-value
returns-in_err-primary-clause-value c =
    let p = err_from_is_err_and c.from_residual.result c.from_residual.ensures.1 in
    rw (p.1, p.2) (sym (compound_stop c.args.frn c.args.rows.now c.args.bytes.now c.in_err-primary.field-0.0 (sym c.in_err-primary.ensures.value)))

pub returns-clause-value : goal.returns-clause-value
returns-clause-value c =
    let next = compound_next c.args.frn c.args.rows.now c.args.bytes.now c.in_ok-primary.primary (sym c.in_ok-primary.ensures.value) in
    rw next (c.subfields_end.ensures.value (take c.in_ok-primary.primary c.args.bytes.now) (rw (← c.split_at.ensures.front) c.bits_of.ensures))
