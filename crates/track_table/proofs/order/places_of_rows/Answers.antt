use Rattle.std.proofs.Common.{◌≡◌, List, filter, length, take, w64, FitsSigned, sym, ap, subst, ◌∙◌, arith}
use Rattle.std.specs.HashMap.{values}
use Rattle.std.proofs.Math.Seq.{take-length}
use Rattle.std.proofs.lemmas.Int.{to_z-of_z}
use Rattle.std.proofs.lemmas.Map.Entries.{length-values_of}
use Rattle.std.proofs.lemmas.Result.{err_from_is_err_and}
use Rattle.track_motion.specs.declared.rank.Stamped.{Stamped}
use Rattle.track_table.specs.KeyOrder.{AreAt}
use Rattle.track_table.specs.Tables.{is_row}
use Rattle.track_table.proofs.Places.{filter_more, filter_same, never_none, no_places, place_more, some_pass, value_at}
use Rattle.track_table.proofs.order.places_of_rows.Goals.{in-Some+then-is_row+in_ok-push, in-Some+else-is_row, in_default}
use Rattle.track_table.proofs.order.places_of_rows.Goals as goal

pub loop-index-init : goal.loop-index-init
loop-index-init c = rw c.new-places.ensures.items (no_places (values c.args.records.now))

pub returns-in_err-push-clause-memory : goal.returns-in_err-push-clause-memory
returns-in_err-push-clause-memory c =
    let failed = err_from_is_err_and c.from_residual.result c.from_residual.ensures.1 in
    let time : FitsSigned w64 c.args.time = c.ranges.time in
    let timeout : FitsSigned w64 c.args.timeout = c.ranges.timeout in
    let here = value_at c.args.records.now.entries c.loop-index.index c.in-Some.field-0-0.now c.in-Some.row.now (sym c.in-Some.ensures.entry) in
    let row : c.is_row.result ≡ is_row c.args.time c.args.timeout c.in-Some.row.now = simp to_z-of_z at c.is_row.ensures in
    rw failed.1 (some_pass (is_row c.args.time c.args.timeout) (values c.args.records.now) c.loop-index.index c.in-Some.row.now here (sym row ∙ c.if-is_row.true))

pub loop-index-preserved : goal.loop-index-preserved
loop-index-preserved c =
    let time : FitsSigned w64 c.args.time = c.ranges.time in
    let timeout : FitsSigned w64 c.args.timeout = c.ranges.timeout in
    let p = is_row c.args.time c.args.timeout in
    let records = values c.args.records.now in
    let i = c.loop-index.index in
    let so_far : AreAt records c.loop-index.places.items (filter p (take i records)) = simp to_z-of_z at c.loop-index.invariant in
    simp to_z-of_z
    (elim c.match-get_index.branch [
      | in-Some+then-is_row+in_ok-push w ↦
          let r = w.in-Some.row.now in
          let here = value_at c.args.records.now.entries i w.in-Some.field-0-0.now r (sym w.in-Some.ensures.entry) in
          let row : w.is_row.result ≡ p r = simp to_z-of_z at w.is_row.ensures in
          rw (w.places-is, w.in_ok-push.ensures.items, filter_more p records i r here (sym row ∙ w.if-is_row.true))
          (place_more records c.loop-index.places.items (filter p (take i records)) (record { number = w.key_number-number.result; index = i }) r so_far w.key_number-number.ensures.number here w.key_number-number.ensures.key)
      | in-Some+else-is_row w ↦
          let r = w.in-Some.row.now in
          let here = value_at c.args.records.now.entries i w.in-Some.field-0-0.now r (sym w.in-Some.ensures.entry) in
          let row : w.is_row.result ≡ p r = simp to_z-of_z at w.is_row.ensures in
          rw (w.places-is, filter_same p records i r here (sym row ∙ w.if-is_row.false)) so_far
      | in_default w ↦ absurd (never_none c.args.records.now.entries i (sym w.in_default.ensures.entry) (let len = c.len-index-end.ensures.len in let below = c.loop-index-test.true in omega arith))
    ])

pub returns-clause-places : goal.returns-clause-places
returns-clause-places c =
    let records = values c.args.records.now in
    let timeout : FitsSigned w64 c.args.timeout = c.ranges.timeout in
    let time : FitsSigned w64 c.args.time = c.ranges.time in
    let p = is_row c.args.time c.args.timeout in
    let so_far : AreAt records c.loop-index.places.items (filter p (take c.loop-index.index records)) = simp to_z-of_z at c.loop-index.invariant in
    let all : c.loop-index.index ≡ length records =
    (let len = c.len-index-end.ensures.len in let below = c.loop-index-test.false in let within = c.loop-index.auto.index-end in let same = length-values_of c.args.records.now.entries in omega arith) in
    subst (λ (rs : List Stamped). AreAt records c.loop-index.places.items (filter p rs)) (ap (λ n. take n records) all ∙ take-length records) so_far
