-- the lines of the feeds before stand there
use Rattle.std.proofs.Common.{◌≡◌, ◌++◌, take}
use Rattle.std.specs.String.{string_bytes}
use Rattle.replay_cli.specs.ReportText.{feeds_lines}
use Rattle.replay_cli.proofs.report.lines.put_feeds.Given as goal

abbrev pub invariant-loop-feed : goal.invariant-loop-feed
invariant-loop-feed l = string_bytes l.text ≡ string_bytes l.initial.text ++ feeds_lines (take l.feed l.feeds)
