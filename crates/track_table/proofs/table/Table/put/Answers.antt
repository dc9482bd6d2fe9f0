use Rattle.std.proofs.Common.{◌≡◌, length, true, false, None, w64, FitsSigned, ap, sym, subst, ◌∙◌, rules, arith}
use Rattle.std.proofs.lemmas.Int.{to_z-of_z}
use Rattle.std.proofs.lemmas.Result.{err_from_is_err_and}
use Rattle.track_motion.specs.Keys.{key_cmp}
use Rattle.track_table.specs.Held.{Held}
use Rattle.track_table.specs.Kept.{counts, superseded_by, unless_outranked}
use Rattle.track_table.proofs.Counted.{inserted_count, put_over_count}
use Rattle.track_table.proofs.Newest.{found}
use Rattle.track_table.proofs.Puts.{answer_is, first_stands, first_stays, kept_of, missing, none_counts, put_inserts, put_over_stands, put_stays, told}
use Rattle.track_table.proofs.table.Table.put.Goals as goal

pub returns-in-Some-clause-answer : goal.returns-in-Some-clause-answer
returns-in-Some-clause-answer c = λ puts stands.
    let old = c.args.self.now in
    let inside = c.self.inside in
    told c.args.s (found c.args.s.track.key inside.kept) c.in-Some.put c.in-Some.ensures.answer
    ∙ ap (λ (h : Held). superseded_by (unless_outranked c.args.s (found c.args.s.track.key h.kept))) c.self.view_is
    ∙ sym (answer_is old.timeout old.frozen puts c.args.s old.kept stands)

pub returns-in-Some-clause-stands : goal.returns-in-Some-clause-stands
returns-in-Some-clause-stands c = λ puts stands.
    let inside = c.self.inside in
    let held : inside.kept ≡ kept_of inside.timeout inside.frozen puts = subst (λ (h : Held). h.kept ≡ kept_of h.timeout h.frozen puts) (sym c.self.view_is) stands in
    put_over_stands inside.timeout inside.frozen puts c.args.s inside.kept c.put_over.new.self c.in-Some.put held c.in-Some.ensures.answer c.in-Some.ensures.written c.in-Some.ensures.same

pub returns-in-Some-clause-count : goal.returns-in-Some-clause-count
returns-in-Some-clause-count c =
    let inside = c.self.inside in
    let more = put_over_count c.in-Some.put inside.kept c.put_over.new.self c.args.s c.in-Some.ensures.written c.in-Some.ensures.same in
    let kept = ap (λ (h : Held). length h.kept) c.self.view_is in
    omega (arith, more, kept)

pub returns-in_ok-insert-clause-count : goal.returns-in_ok-insert-clause-count
returns-in_ok-insert-clause-count c =
    let inside = c.self.inside in
    let same : c.put_over.new.self ≡ inside.kept = c.in_default.ensures.same (λ e. cc) in
    let more = inserted_count key_cmp c.put_over.new.self c.args.s.track.key c.args.s in
    let inserted = ap length c.in_ok-insert.ensures.inserted in
    let before = ap length same in
    let kept = ap (λ (h : Held). length h.kept) c.self.view_is in
    omega (arith, more, inserted, before, kept)

pub returns-in_ok-insert-clause-answer : goal.returns-in_ok-insert-clause-answer
returns-in_ok-insert-clause-answer c = λ puts stands.
    let old = c.args.self.now in
    let none : found c.args.s.track.key old.kept ≡ None = ap (λ (h : Held). found c.args.s.track.key h.kept) (sym c.self.view_is) ∙ missing c.args.s (found c.args.s.track.key c.self.inside.kept) c.in_default.ensures.answer in
    ap (λ o. superseded_by (unless_outranked c.args.s o)) (sym none) ∙ sym (answer_is old.timeout old.frozen puts c.args.s old.kept stands)

pub returns-in_ok-insert-clause-stands : goal.returns-in_ok-insert-clause-stands
returns-in_ok-insert-clause-stands c = λ puts stands.
    let inside = c.self.inside in
    let timeout : FitsSigned w64 inside.timeout = search rules in
    let held : inside.kept ≡ kept_of inside.timeout inside.frozen puts = subst (λ (h : Held). h.kept ≡ kept_of h.timeout h.frozen puts) (sym c.self.view_is) stands in
    let counted : true ≡ counts inside.timeout inside.frozen c.args.s = simp to_z-of_z at c.if-counts.ensures in
    let none = missing c.args.s (found c.args.s.track.key inside.kept) c.in_default.ensures.answer in
    let same : c.put_over.new.self ≡ inside.kept = c.in_default.ensures.same (λ e. cc) in
    c.in_ok-insert.ensures.inserted
    ∙ put_inserts inside.timeout inside.frozen puts c.args.s c.put_over.new.self (same ∙ held)
    (first_stands (counts inside.timeout inside.frozen) c.args.s (found c.args.s.track.key c.put_over.new.self) (ap (found c.args.s.track.key) same ∙ none) (sym counted))

pub returns-else-counts-clause-answer : goal.returns-else-counts-clause-answer
returns-else-counts-clause-answer c = λ puts stands.
    let old = c.args.self.now in
    let none : found c.args.s.track.key old.kept ≡ None = ap (λ (h : Held). found c.args.s.track.key h.kept) (sym c.self.view_is) ∙ missing c.args.s (found c.args.s.track.key c.self.inside.kept) c.in_default.ensures.answer in
    ap (λ o. superseded_by (unless_outranked c.args.s o)) (sym none) ∙ sym (answer_is old.timeout old.frozen puts c.args.s old.kept stands)

pub returns-else-counts-clause-stands : goal.returns-else-counts-clause-stands
returns-else-counts-clause-stands c = λ puts stands.
    let inside = c.self.inside in
    let timeout : FitsSigned w64 inside.timeout = search rules in
    let held : inside.kept ≡ kept_of inside.timeout inside.frozen puts = subst (λ (h : Held). h.kept ≡ kept_of h.timeout h.frozen puts) (sym c.self.view_is) stands in
    let late : false ≡ counts inside.timeout inside.frozen c.args.s = simp to_z-of_z at c.if-counts.ensures in
    let none = missing c.args.s (found c.args.s.track.key inside.kept) c.in_default.ensures.answer in
    let same : c.put_over.new.self ≡ inside.kept = c.in_default.ensures.same (λ e. cc) in
    same ∙ put_stays inside.timeout inside.frozen puts c.args.s inside.kept held (first_stays (counts inside.timeout inside.frozen) c.args.s (found c.args.s.track.key inside.kept) none (sym late))

pub returns-in_err-insert-clause-memory : goal.returns-in_err-insert-clause-memory
returns-in_err-insert-clause-memory c =
    let failed = err_from_is_err_and c.from_residual.result c.from_residual.ensures.1 in
    let old = c.args.self.now in
    let none : found c.args.s.track.key old.kept ≡ None = ap (λ (h : Held). found c.args.s.track.key h.kept) (sym c.self.view_is) ∙ missing c.args.s (found c.args.s.track.key c.self.inside.kept) c.in_default.ensures.answer in
    rw failed.1 (λ puts stands. none_counts old.timeout old.frozen puts c.args.s.track.key old.kept stands none)
