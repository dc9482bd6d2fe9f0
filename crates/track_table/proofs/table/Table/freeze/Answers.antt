use Rattle.std.proofs.Common.{◌≡◌, ◌≢◌, [], ◌≤ℤ◌, w64, FitsSigned, ap, sym, subst, ◌∙◌, rules}
use Rattle.std.specs.Prelude.{filter}
use Rattle.std.specs.Option.{ForSome}
use Rattle.std.specs.Map.{values_of}
use Rattle.std.proofs.lemmas.Int.{to_z-of_z}
use Rattle.std.proofs.lemmas.Result.{err_from_is_err_and}
use Rattle.track_motion.specs.declared.rank.Stamped.{Stamped}
use Rattle.track_motion.specs.declared.track.TrackKey.{TrackKey}
use Rattle.track_table.specs.Held.{Held}
use Rattle.track_table.specs.Kept.{CanFreeze}
use Rattle.track_table.specs.Tables.{is_recent, is_row, table}
use Rattle.track_table.specs.Times.{cycle_time}
use Rattle.track_table.proofs.Freezes.{freeze_keeps, freeze_rows}
use Rattle.track_table.proofs.Puts.{kept_of}
use Rattle.track_table.proofs.table.Table.freeze.Goals as goal

pub returns-clause-rows : goal.returns-clause-rows
returns-clause-rows c = λ puts stands due.
    let inside = c.self.inside in
    let start : FitsSigned w64 inside.start = search rules in
    let period : FitsSigned w64 inside.period = search rules in
    let timeout : FitsSigned w64 inside.timeout = search rules in
    let time : FitsSigned w64 c.cycle_time-time.result = search rules in
    let at : c.cycle_time-time.result ≡ cycle_time inside.start inside.period c.args.k = simp to_z-of_z at c.cycle_time-time.ensures in
    let can = subst (λ (h : Held). CanFreeze h c.args.k) (sym c.self.view_is) c.requires in
    let held : inside.kept ≡ kept_of inside.timeout inside.frozen puts = subst (λ (h : Held). h.kept ≡ kept_of h.timeout h.frozen puts) (sym c.self.view_is) stands in
    let rows : c.in_ok-rows.rows ≡ filter (is_row (cycle_time inside.start inside.period c.args.k) inside.timeout) (values_of inside.kept) = rw at at (simp to_z-of_z at c.in_ok-rows.ensures.rows) in
    rows
    ∙ freeze_rows inside.start inside.period inside.timeout inside.frozen c.args.k puts inside.kept can.order held due
    ∙ ap (λ (h : Held). table h.start h.period h.timeout c.args.k puts) c.self.view_is

pub returns-clause-stands : goal.returns-clause-stands
returns-clause-stands c = λ puts stands.
    let inside = c.self.inside in
    let start : FitsSigned w64 inside.start = search rules in
    let period : FitsSigned w64 inside.period = search rules in
    let timeout : FitsSigned w64 inside.timeout = search rules in
    let time : FitsSigned w64 c.cycle_time-time.result = search rules in
    let at : c.cycle_time-time.result ≡ cycle_time inside.start inside.period c.args.k = simp to_z-of_z at c.cycle_time-time.ensures in
    let can = subst (λ (h : Held). CanFreeze h c.args.k) (sym c.self.view_is) c.requires in
    let order : ForSome inside.frozen (λ last. last ≤ℤ c.cycle_time-time.result) = rw at can.order in
    let held : inside.kept ≡ kept_of inside.timeout inside.frozen puts = subst (λ (h : Held). h.kept ≡ kept_of h.timeout h.frozen puts) (sym c.self.view_is) stands in
    let kept : c.keep_recent.new.self ≡ filter (λ (e : TrackKey × Stamped). is_recent c.cycle_time-time.result inside.timeout e.1) inside.kept = simp to_z-of_z at c.keep_recent.ensures in
    simp to_z-of_z (kept ∙ freeze_keeps inside.timeout inside.frozen c.cycle_time-time.result puts inside.kept order held)

pub returns-in_err-rows-clause-memory : goal.returns-in_err-rows-clause-memory
returns-in_err-rows-clause-memory c =
    let failed = err_from_is_err_and c.from_residual.result c.from_residual.ensures.1 in
    let inside = c.self.inside in
    let start : FitsSigned w64 inside.start = search rules in
    let period : FitsSigned w64 inside.period = search rules in
    let timeout : FitsSigned w64 inside.timeout = search rules in
    let time : FitsSigned w64 c.cycle_time-time.result = search rules in
    let at : c.cycle_time-time.result ≡ cycle_time inside.start inside.period c.args.k = simp to_z-of_z at c.cycle_time-time.ensures in
    let can = subst (λ (h : Held). CanFreeze h c.args.k) (sym c.self.view_is) c.requires in
    let some : filter (is_row (cycle_time inside.start inside.period c.args.k) inside.timeout) (values_of inside.kept) ≢ [] = rw at at (simp to_z-of_z at c.in_err-rows.ensures.memory) in
    rw failed.1 (λ puts stands due none.
    let held : inside.kept ≡ kept_of inside.timeout inside.frozen puts = subst (λ (h : Held). h.kept ≡ kept_of h.timeout h.frozen puts) (sym c.self.view_is) stands in
    some
    (freeze_rows inside.start inside.period inside.timeout inside.frozen c.args.k puts inside.kept can.order held due
    ∙ ap (λ (h : Held). table h.start h.period h.timeout c.args.k puts) c.self.view_is
    ∙ none))
