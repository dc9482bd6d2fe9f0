use Rattle.std.proofs.Common.{◌≡◌, [], ◌++◌, ap, ◌∙◌}
use Rattle.alert_states.specs.Merge.{updates}
use Rattle.alert_states.specs.Steps.{count_begun, kept_after, told_after}
use Rattle.alert_states.proofs.Cycles.{book_events, book_firsts, book_stands}
use Rattle.alert_states.proofs.book.Book.cycle.Goals as goal

pub returns-clause-events : goal.returns-clause-events
returns-clause-events c = λ past stands.
    let inside = c.self.inside in
    let hits = c.args.hits.now in
    let put : c.merge-begun.new.events.items ≡ c.args.out.now.items ++ told_after inside.confirm inside.firsts (updates inside.entries.items hits) = rw (← c.as_slice.ensures.value, ← c.reserve.ensures.items) c.merge-begun.ensures.events in
    book_events c.args.self.now inside.confirm inside.firsts inside.entries.items hits past c.args.out.now.items c.merge-begun.new.events.items c.self.view_is c.requires put stands

pub returns-clause-firsts : goal.returns-clause-firsts
returns-clause-firsts c = λ past stands.
    let inside = c.self.inside in
    let hits = c.args.hits.now in
    let counted : c.merge-begun.result ≡ count_begun inside.confirm inside.firsts (updates inside.entries.items hits) = rw (← c.as_slice.ensures.value) c.merge-begun.ensures.begun in
    book_firsts c.args.self.now inside.confirm inside.firsts inside.entries.items hits past c.merge-begun.result c.self.view_is c.requires counted stands

pub returns-clause-stands : goal.returns-clause-stands
returns-clause-stands c = λ past stands.
    let inside = c.self.inside in
    let hits = c.args.hits.now in
    let counted : c.merge-begun.result ≡ count_begun inside.confirm inside.firsts (updates inside.entries.items hits) = rw (← c.as_slice.ensures.value) c.merge-begun.ensures.begun in
    let emptied : c.reserve-2.new.self.items ≡ [] = c.reserve-2.ensures.items ∙ c.clear.ensures.items in
    let put : c.merge-begun.new.kept.items ≡ kept_after inside.confirm inside.firsts (updates inside.entries.items hits) =
    c.merge-begun.ensures.kept
    ∙ ap (λ es. es ++ kept_after inside.confirm inside.firsts (updates c.as_slice.result.now hits)) emptied
    ∙ ap (λ es. kept_after inside.confirm inside.firsts (updates es hits)) c.as_slice.ensures.value in
    rw (c.swap.ensures.x_after, c.from.ensures)
    (book_stands c.args.self.now inside.confirm inside.firsts inside.entries.items hits past c.merge-begun.result c.merge-begun.new.kept.items c.self.view_is c.requires put counted stands)
