use Rattle.std.specs.String.{string_bytes}
use Rattle.replay_cli.specs.ReportText.{refusal_line}
use Rattle.replay_cli.proofs.Lines.{part-next}
use Rattle.replay_cli.proofs.report.lines.put_refusals.Goals as goal

pub loop-refused-preserved : goal.loop-refused-preserved
loop-refused-preserved c =
    part-next (refusal_line c.args.feed) (string_bytes c.args.text.now) (string_bytes c.loop-refused.text) (string_bytes c.put_refusal.new.text) c.args.refusals.now c.loop-refused.refused-index _ c.loop-refused-test.true c.loop-refused.invariant
    c.in_ok-put_refusal.ensures
