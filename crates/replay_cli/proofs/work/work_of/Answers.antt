use Rattle.std.proofs.Common.{◌∙◌, ap, ap₂, rules}
use Rattle.cycle_workers.specs.Settings.{setting}
use Rattle.replay_cli.specs.Counts.{report_by}
use Rattle.feed_threads.specs.Reference.{alerts}
use Rattle.replay_cli.specs.ReportText.{text_of}
use Rattle.replay_cli.proofs.Ends.{whole_is_prefix}
use Rattle.replay_cli.proofs.work.work_of.Goals as goal

pub returns-clause-work : goal.returns-clause-work
returns-clause-work g c = record {
  report = c.in_ok-report.ensures ∙ ap text_of (c.report_of.ensures ∙ ap₂ report_by c.in_ok-counts.ensures.counts c.in_ok-made.ensures.made);
  intact = c.are_intact.ensures;
}

pub returns-in_err-counts-clause-prefix : goal.returns-in_err-counts-clause-prefix
returns-in_err-counts-clause-prefix g c =
    let front = whole_is_prefix (g.K.Sink.taken c.args.out.now) (g.K.Sink.taken c.make_cycles.new.out) (alerts (setting c.args.site.now c.args.terrain.now) c.args.inputs.now) c.in_ok-made.ensures.alerts in
    search rules

pub returns-in_err-report-clause-prefix : goal.returns-in_err-report-clause-prefix
returns-in_err-report-clause-prefix g c =
    let front = whole_is_prefix (g.K.Sink.taken c.args.out.now) (g.K.Sink.taken c.make_cycles.new.out) (alerts (setting c.args.site.now c.args.terrain.now) c.args.inputs.now) c.in_ok-made.ensures.alerts in
    search rules
