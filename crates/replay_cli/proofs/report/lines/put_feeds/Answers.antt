use Rattle.std.specs.String.{string_bytes}
use Rattle.replay_cli.specs.ReportText.{feed_lines}
use Rattle.replay_cli.proofs.Lines.{numbered-next}
use Rattle.replay_cli.proofs.report.lines.put_feeds.Goals as goal

pub loop-feed-preserved : goal.loop-feed-preserved
loop-feed-preserved c =
    numbered-next (λ entry. feed_lines entry.0 entry.1) (string_bytes c.args.text.now) (string_bytes c.loop-feed.text) (string_bytes c.put_feed.new.text) c.args.feeds.now c.loop-feed.feed c.index-feeds-feed.result c.loop-feed-test.true
    c.index-feeds-feed.is c.loop-feed.invariant c.in_ok-put_feed.ensures
