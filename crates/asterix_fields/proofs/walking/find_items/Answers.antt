use Rattle.std.proofs.lemmas.Result.{err_from_is_err_and}
use Rattle.asterix_fields.proofs.RecordLaws.{record_takes, spans_within, only_found, none_refused}
use Rattle.asterix_fields.proofs.FirstFaultLaws.{record_breaks}
use Rattle.asterix_fields.proofs.walking.find_items.Goals as goal

pub returns-in_err-end-clause-only : goal.returns-in_err-end-clause-only
returns-in_err-end-clause-only g c = λ text rest items spelled same.
    absurd (none_refused c.args.uap.now.0 c.args.subs.now.0 c.args.bytes.now c.in_err-end.field-0.0 c.requires.tables c.in_err-end.ensures.value text rest items spelled same)

pub returns-clause-spelled : goal.returns-clause-spelled
returns-clause-spelled g c =
    record_takes c.args.uap.now.0 c.args.subs.now.0 c.args.bytes.now (c.read_record.new.spans, c.in_ok-end.end) c.requires.tables c.in_ok-end.ensures.value

pub returns-clause-only : goal.returns-clause-only
returns-clause-only g c =
    only_found c.args.uap.now.0 c.args.subs.now.0 c.args.bytes.now (c.read_record.new.spans, c.in_ok-end.end) c.requires.tables c.in_ok-end.ensures.value

pub returns-clause-within : goal.returns-clause-within
returns-clause-within g c =
    spans_within c.args.uap.now.0 c.args.subs.now.0 c.args.bytes.now (c.read_record.new.spans, c.in_ok-end.end) c.requires.tables c.in_ok-end.ensures.value

pub returns-in_err-end-clause-first : goal.returns-in_err-end-clause-first
returns-in_err-end-clause-first g c =
    let p = err_from_is_err_and c.from_residual.result c.from_residual.ensures.1 in
    rw (p.1, p.2) (record_breaks c.args.uap.now.0 c.args.subs.now.0 c.args.bytes.now c.in_err-end.field-0.0 c.requires.tables c.in_err-end.ensures.value)
