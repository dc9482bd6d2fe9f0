use Rattle.std.proofs.Common.{◌≢◌, [], List, ap, filter, ◌∙◌, w64, FitsSigned, rules}
use Rattle.std.specs.HashMap.{values}
use Rattle.std.specs.Map.{values_of}
use Rattle.std.proofs.lemmas.Int.{to_z-of_z}
use Rattle.std.proofs.lemmas.List.Sorted.{answers_always}
use Rattle.std.proofs.lemmas.Result.{IfOk-weaker, err_from_is_err_and, on_err_weaker}
use Rattle.track_motion.specs.declared.rank.Stamped.{Stamped}
use Rattle.track_motion.specs.declared.track.TrackKey.{TrackKey}
use Rattle.track_table.specs.KeyOrder.{ArePlacesOf, records_at}
use Rattle.track_table.specs.Tables.{is_row}
use Rattle.track_table.proofs.KeyOrder.{none_pass, sorted_rows}
use Rattle.track_table.proofs.Places.{no_place_left, sorted_places}
use Rattle.track_table.proofs.latest.Latest.rows_at.Goals as goal

pub returns-clause-rows : goal.returns-clause-rows
returns-clause-rows c =
    let records = values c.self.inside.records in
    let sorted = c.sort_unstable_by_key.new.self.items in
    let time : FitsSigned w64 c.args.time = c.ranges.time in
    let timeout : FitsSigned w64 c.args.timeout = c.ranges.timeout in
    let p = is_row c.args.time c.args.timeout in
    let found : ArePlacesOf p records c.in_ok-places.places.items = simp to_z-of_z at c.in_ok-places.ensures.places in
    let same = sorted_places records c.in_ok-places.places.items sorted (filter p records) found c.sort_unstable_by_key.ensures.permutation
    (c.sort_unstable_by_key.ensures.sorted (λ place. place.number) (answers_always _ _ _ (λ f a r g h. search rules))) in
    IfOk-weaker c.rows_at_places.result _ _
    (λ rows is. is
    ∙ ap (records_at records) c.as_slice.ensures.value
    ∙ sorted_rows p c.self.inside.records.entries (records_at records sorted) c.self.invariant same.0 same.1
    ∙ ap (λ (es : List (TrackKey × Stamped)). filter p (values_of es)) c.self.view_is) c.rows_at_places.ensures.rows

-- where no row is kept in key order, none is kept
pub returns-clause-memory : goal.returns-clause-memory
returns-clause-memory c =
    let timeout : FitsSigned w64 c.args.timeout = c.ranges.timeout in
    let time : FitsSigned w64 c.args.time = c.ranges.time in
    let p = is_row c.args.time c.args.timeout in
    let found : ArePlacesOf p (values c.self.inside.records) c.in_ok-places.places.items = simp to_z-of_z at c.in_ok-places.ensures.places in
    on_err_weaker c.rows_at_places.result
    (λ some none. some (c.as_slice.ensures.value
    ∙ no_place_left (values c.self.inside.records) c.in_ok-places.places.items c.sort_unstable_by_key.new.self.items (filter p (values c.self.inside.records)) found c.sort_unstable_by_key.ensures.permutation
    (none_pass p c.self.inside.records.entries c.self.invariant (ap (λ (es : List (TrackKey × Stamped)). filter p (values_of es)) c.self.view_is ∙ none)))) c.rows_at_places.ensures.memory

pub returns-in_err-places-clause-memory : goal.returns-in_err-places-clause-memory
returns-in_err-places-clause-memory c =
    let time : FitsSigned w64 c.args.time = c.ranges.time in
    let failed = err_from_is_err_and c.from_residual.result c.from_residual.ensures.1 in
    let timeout : FitsSigned w64 c.args.timeout = c.ranges.timeout in
    let p = is_row c.args.time c.args.timeout in
    let some : filter p (values c.self.inside.records) ≢ [] = simp to_z-of_z at c.in_err-places.ensures.memory in
    rw failed.1
    (λ none. some (none_pass p c.self.inside.records.entries c.self.invariant (ap (λ (es : List (TrackKey × Stamped)). filter p (values_of es)) c.self.view_is ∙ none)))
