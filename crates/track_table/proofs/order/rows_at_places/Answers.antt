use Rattle.std.proofs.Common.{[], ◌∷◌, ◌++◌, get_or, take, Some, None, sym, ap, ◌∙◌}
use Rattle.track_table.specs.declared.order.RowPlace.{RowPlace}
use Rattle.std.specs.HashMap.{values}
use Rattle.std.proofs.lemmas.List.{append-nil}
use Rattle.track_table.specs.KeyOrder.{records_at}
use Rattle.track_table.proofs.Places.{no_value_at, record_more, value_at}
use Rattle.track_table.proofs.order.rows_at_places.Goals.{in-Some+in_ok-push, in_default}
use Rattle.track_table.proofs.order.rows_at_places.Goals as goal

pub loop-place-preserved : goal.loop-place-preserved
loop-place-preserved c =
    let records = values c.args.records.now in
    let i = c.loop-place.place-index in
    let none : RowPlace = record { number = 0; index = 0 } in
    let index = (get_or c.args.places.now i none).index in
    elim c.match-get_index.branch [
      | in-Some+in_ok-push w ↦
          let r = w.in-Some.row.now in
          let here = value_at c.args.records.now.entries index w.in-Some.field-0-0.now r (sym w.in-Some.ensures.entry) in
          rw (w.rows-is, w.in_ok-push.ensures.items) (ap (λ rs. rs ++ r ∷ []) c.loop-place.invariant ∙ sym (record_more records c.args.places.now i none (Some r) c.loop-place-test.true here))
      | in_default w ↦
          let here = no_value_at c.args.records.now.entries index (sym w.in_default.ensures.entry) in
          rw w.rows-is (c.loop-place.invariant ∙ sym (append-nil (records_at records (take i c.args.places.now))) ∙ sym (record_more records c.args.places.now i none None c.loop-place-test.true here))
    ]
