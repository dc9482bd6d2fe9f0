use Rattle.std.proofs.Common.{refl, ap, ◌+◌, ◌∙◌}
use Rattle.std.proofs.lemmas.Result.{err_from_is_err_and}
use Rattle.asterix_blocks.proofs.Framings.{framing-more, framing-ended, framing-some, framing-some_found, rest_from}
use Rattle.asterix_blocks.proofs.feeds.frame.Goals as goal

pub loop-blocks-preserved : goal.loop-blocks-preserved
loop-blocks-preserved c =
    let more = framing-more c.args.feed.now _ c.loop-blocks.at _ _ c.in-Some.block c.loop-blocks.blocks.items _ c.loop-blocks.invariant.within (rest_from _ _ c.loop-blocks.at refl) c.in_ok-block.ensures.block c.in-Some.is (ap (λ n. 3 + n) c.len.ensures) c.in_ok-push.ensures.items c.loop-blocks.invariant.same in
    record {
      within = more.0;
      same = more.1;
    }

pub returns-clause-blocks : goal.returns-clause-blocks
returns-clause-blocks c =
    (framing-ended c.args.feed.now _ c.loop-blocks.at _ _ c.loop-blocks.blocks.items (rest_from _ _ c.loop-blocks.at refl) c.in_ok-block.ensures.block c.in_default.is c.loop-blocks.invariant.same).0

pub returns-clause-end : goal.returns-clause-end
returns-clause-end c =
    c.end_at.ensures
    ∙ (framing-ended c.args.feed.now _ c.loop-blocks.at _ _ c.loop-blocks.blocks.items (rest_from _ _ c.loop-blocks.at refl) c.in_ok-block.ensures.block c.in_default.is c.loop-blocks.invariant.same).1

pub returns-in_err-block-clause-memory : goal.returns-in_err-block-clause-memory
returns-in_err-block-clause-memory c =
    let p = err_from_is_err_and c.from_residual.result c.from_residual.ensures.1 in
    rw p.1 (framing-some c.args.feed.now _ c.loop-blocks.at c.loop-blocks.blocks.items (rest_from _ _ c.loop-blocks.at refl) c.in_err-block.ensures.memory c.loop-blocks.invariant.same)

pub returns-in_err-push-clause-memory : goal.returns-in_err-push-clause-memory
returns-in_err-push-clause-memory c =
    let p = err_from_is_err_and c.from_residual-in_err-push.result c.from_residual-in_err-push.ensures.1 in
    rw p.1 (framing-some_found c.args.feed.now _ c.loop-blocks.at _ c.in-Some.block c.loop-blocks.blocks.items (rest_from _ _ c.loop-blocks.at refl) c.in_ok-block.ensures.block c.in-Some.is c.loop-blocks.invariant.same)
