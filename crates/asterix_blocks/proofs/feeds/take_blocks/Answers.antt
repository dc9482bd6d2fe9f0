use Rattle.std.proofs.lemmas.Result.{err_from_is_err_and}
use Rattle.asterix_blocks.proofs.Framings.{Gives-some}
use Rattle.asterix_blocks.proofs.feeds.take_blocks.Goals as goal

pub returns-in_err-block-clause-memory : goal.returns-in_err-block-clause-memory
returns-in_err-block-clause-memory c =
    let p = err_from_is_err_and c.from_residual.result c.from_residual.ensures.1 in
    rw p.1 (λ none. c.in_err-block.ensures.memory (c.loop-block.invariant.none none))

pub returns-in_err-push-clause-memory : goal.returns-in_err-push-clause-memory
returns-in_err-push-clause-memory c =
    let p = err_from_is_err_and c.from_residual-in_err-push.result c.from_residual-in_err-push.ensures.1 in
    let gives = rw c.in-Some.is at c.in_ok-block.ensures.block in
    rw p.1 (λ none. Gives-some _ _ c.in-Some.block gives (c.loop-block.invariant.none none))

pub loop-block-preserved : goal.loop-block-preserved
loop-block-preserved c =
    let gives = rw c.in-Some.is at c.in_ok-block.ensures.block in
    let given = rw c.in-Some.is at c.in_ok-block.ensures.given in
    record {
      cuts = λ fed h. rw c.in_ok-push.ensures.items (given fed _ (c.loop-block.invariant.cuts fed h));
      none = λ none. absurd (Gives-some _ _ c.in-Some.block gives (c.loop-block.invariant.none none));
    }
