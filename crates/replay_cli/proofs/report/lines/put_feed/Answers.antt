use Rattle.std.proofs.Common.{◌≡◌, ◌∙◌, ◌-◌, ℕ, List, ◌++◌, length, take, ap}
use Rattle.std.specs.List.{flat_map}
use Rattle.std.specs.String.{string_bytes}
use Rattle.std.proofs.lemmas.Result.{IfOk-weaker}
use Rattle.cat062_read.specs.declared.body.Refused.{Refused}
use Rattle.replay_cli.specs.ReportText.{feed_line, more_line, printed, refusal_line}
use Rattle.feed_reader.specs.declared.counts.TheConstants.{MOST_REFUSALS}
use Rattle.replay_cli.proofs.Lines.{three-parts}
use Rattle.replay_cli.proofs.report.lines.put_feed.Goals as goal

pub returns : goal.returns
returns c =
    let feed = c.args.feed in
    let count = c.args.count.now in
    let refusals = c.printed-refusals.result.now in
    let is : refusals ≡ printed count = c.printed-refusals.ensures ∙ ap (take MOST_REFUSALS) c.as_slice.ensures in
    let more : c.saturating_sub.result ≡ count.refusals - length (printed count) = c.saturating_sub.ensures ∙ ap (λ (xs : List Refused). count.refusals - length xs) is in
    IfOk-weaker c.put_more.result _ _
    (λ _ e. three-parts (string_bytes c.args.text.now) (string_bytes c.put_feed_line.new.text) (string_bytes c.put_refusals.new.text) (string_bytes c.put_more.new.text) (feed_line feed count) (flat_map (refusal_line feed) (printed count))
    (more_line feed (count.refusals - length (printed count))) c.in_ok-put_feed_line.ensures
    (c.in_ok-put_refusals.ensures ∙ ap (λ (xs : List Refused). string_bytes c.put_feed_line.new.text ++ flat_map (refusal_line feed) xs) is)
    (e ∙ ap (λ (n : ℕ). string_bytes c.put_refusals.new.text ++ more_line feed n) more))
    c.put_more.ensures
