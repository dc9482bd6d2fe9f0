use Rattle.std.proofs.Common.{◌≡◌, ◌+◌, ◌-◌, length, take, drop, Ok, Err, sym}
use Rattle.std.proofs.lemmas.Result.{err_from_is_err_and}
use Rattle.asterix_fields.specs.Faults.{spans_at, item_at, no_more, first_named}
use Rattle.asterix_fields.proofs.Steps.{record_no_fspec, record_no_items, record_too_many, record_done}
use Rattle.asterix_fields.proofs.walking.read_record.Goals as goal

pub returns-in_err-size-clause-value : goal.returns-in_err-size-clause-value
returns-in_err-size-clause-value g c =
    let p = err_from_is_err_and c.from_residual.result c.from_residual.ensures.1 in
    rw (p.1, p.2) (record_no_fspec c.args.uap.now c.args.subs.now c.args.bytes.now c.in_err-size.field-0.0 (sym c.in_err-size.ensures.value))

pub returns-in_err-end-clause-value : goal.returns-in_err-end-clause-value
returns-in_err-end-clause-value g c =
    let p = err_from_is_err_and c.from_residual-in_err-end.result c.from_residual-in_err-end.ensures.1 in
    let bytes = c.args.bytes.now in
    let size = c.in_ok-size.size in
    let items : spans_at (item_at c.args.subs.now) (take size bytes) 1 size c.args.uap.now (drop size bytes) ≡ Err c.in_err-end.field-0.0 =
    c.in_err-end.ensures.value (take size bytes) (rw (← c.split_at.ensures.front) c.bits_of-bits.ensures) in
    rw (p.1, p.2) (record_no_items c.args.uap.now c.args.subs.now bytes size c.in_err-end.field-0.0 (sym c.in_ok-size.ensures.value) items)

pub returns-in_err-past_the_table-clause-value : goal.returns-in_err-past_the_table-clause-value
returns-in_err-past_the_table-clause-value g c =
    let p = err_from_is_err_and c.from_residual-in_err-past_the_table.result c.from_residual-in_err-past_the_table.ensures.1 in
    let bytes = c.args.bytes.now in
    let size = c.in_ok-size.size in
    let uap = c.args.uap.now in
    let items : spans_at (item_at c.args.subs.now) (take size bytes) 1 size uap (drop size bytes) ≡ Ok (c.item_spans.new.spans, c.in_ok-end.end) =
    c.in_ok-end.ensures.value (take size bytes) (rw (← c.split_at.ensures.front) c.bits_of-bits.ensures) in
    let past : no_more (first_named (take size bytes) (35 - length uap) (length uap + 1)) ≡ Err c.in_err-past_the_table.field-0.0 =
    rw c.told-uap (sym (c.in_err-past_the_table.ensures (take size bytes) (rw (← c.split_at.ensures.front) c.bits_of-bits.ensures))) in
    rw (p.1, p.2) (record_too_many uap c.args.subs.now bytes size (c.item_spans.new.spans, c.in_ok-end.end) c.in_err-past_the_table.field-0.0 (sym c.in_ok-size.ensures.value) items past)

pub returns-clause-value : goal.returns-clause-value
returns-clause-value g c =
    let bytes = c.args.bytes.now in
    let size = c.in_ok-size.size in
    let uap = c.args.uap.now in
    let items : spans_at (item_at c.args.subs.now) (take size bytes) 1 size uap (drop size bytes) ≡ Ok (c.item_spans.new.spans, c.in_ok-end.end) =
    c.in_ok-end.ensures.value (take size bytes) (rw (← c.split_at.ensures.front) c.bits_of-bits.ensures) in
    let none : no_more (first_named (take size bytes) (35 - length uap) (length uap + 1)) ≡ Ok c.in_ok-past_the_table.field-0 =
    rw c.told-uap (sym (c.in_ok-past_the_table.ensures (take size bytes) (rw (← c.split_at.ensures.front) c.bits_of-bits.ensures))) in
    record_done uap c.args.subs.now bytes size (c.item_spans.new.spans, c.in_ok-end.end) c.in_ok-past_the_table.field-0 (sym c.in_ok-size.ensures.value) items none
