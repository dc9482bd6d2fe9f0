use Rattle.std.proofs.Common.{◌≡◌, ◌∙◌, ◌++◌, ◌∷◌, [], List, get_or, take, sym, ap}
use Rattle.track_motion.specs.declared.rank.Stamped.{Stamped}
use Rattle.feed_reader.specs.Content.{Content}
use Rattle.feed_threads.specs.Cycling.{stamps_each}
use Rattle.feed_threads.specs.Reference.{stamps_told}
use Rattle.feed_threads.proofs.Feeding.{each_more}
use Rattle.feed_threads.proofs.cycles.cursors_of.Goals as goal

pub loop-feed-preserved : goal.loop-feed-preserved
loop-feed-preserved c =
    let input : Content = c.index-inputs-feed.result in
    let here : c.new.result ≡ stamps_told c.args.site.now c.loop-feed.feed (get_or c.args.inputs.now c.loop-feed.feed input).records =
    c.new.ensures ∙ ap (λ (i : Content). stamps_told c.args.site.now c.loop-feed.feed i.records) c.index-inputs-feed.is in
    c.in_ok-push.ensures.items
    ∙ ap (λ (ls : List (List Stamped)). ls ++ c.new.result ∷ []) c.loop-feed.invariant
    ∙ ap (λ (ss : List Stamped). stamps_each c.args.site.now (take c.loop-feed.feed c.args.inputs.now) ++ ss ∷ []) here
    ∙ sym (each_more c.args.site.now c.args.inputs.now c.loop-feed.feed input c.loop-feed-test.true)
