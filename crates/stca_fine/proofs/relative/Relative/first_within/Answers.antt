use Rattle.std.proofs.Common.{ℕ, pos, sym, ap, ◌∙◌, Some, option_map, w64}
use Rattle.std.proofs.lemmas.Int.{to_z-of_z}
use Rattle.stca_fine.specs.Relative.{IsWithin}
use Rattle.stca_fine.proofs.Spans.{first_is, none_within, some_within}
use Rattle.stca_fine.proofs.relative.Relative.first_within.Goals as goal

pub returns-in-Empty : goal.returns-in-Empty
returns-in-Empty c =
    let none = rw (to_z-of_z w64 c.args.h c.ranges.h, to_z-of_z w64 c.args.v c.ranges.v, to_z-of_z w64 c.args.look c.ranges.look) at c.in-Empty.ensures in
    sym (ap (option_map (λ (t : ℕ). pos t)) (none_within c.searches_find_the_first.ensures.only c.args.self.now c.args.h c.args.v c.args.look c.requires.ahead none))

pub returns-in-Span : goal.returns-in-Span
returns-in-Span c =
    let ticks = rw (to_z-of_z w64 c.args.h c.ranges.h, to_z-of_z w64 c.args.v c.ranges.v, to_z-of_z w64 c.args.look c.ranges.look) at c.in-Span.ensures in
    ap Some (first_is (IsWithin c.args.self.now c.args.h c.args.v) c.args.look c.in-Span.first c.in-Span.last c.requires.ahead ticks) ∙
    sym (ap (option_map (λ (t : ℕ). pos t)) (some_within c.searches_find_the_first.ensures.only c.args.self.now c.args.h c.args.v c.args.look c.in-Span.first c.in-Span.last c.requires.ahead ticks))
