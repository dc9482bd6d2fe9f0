use Rattle.std.proofs.Common.{arith}
use Rattle.std.proofs.lemmas.Int.{ints, clamps}
use Rattle.tick_sets.proofs.Meets.{shared}
use Rattle.tick_sets.proofs.spans.meet_span.Goals as goal

pub returns-in-Span-clause-members : goal.returns-in-Span-clause-members
returns-in-Span-clause-members c =
    shared c.args.first c.args.last c.in-Span.start c.in-Span.end _ _ c.args.ticks c.span.result c.in-Span.is
    (omega (arith, ints, clamps)) (omega (arith, ints, clamps)) c.span.ensures.members
