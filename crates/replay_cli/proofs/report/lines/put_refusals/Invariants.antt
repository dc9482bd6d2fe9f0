-- the lines of the refusals before stand there
use Rattle.std.proofs.Common.{◌≡◌, ◌++◌, take}
use Rattle.std.specs.List.{flat_map}
use Rattle.std.specs.String.{string_bytes}
use Rattle.replay_cli.specs.ReportText.{refusal_line}
use Rattle.replay_cli.proofs.report.lines.put_refusals.Given as goal

abbrev pub invariant-loop-refused : goal.invariant-loop-refused
invariant-loop-refused l = string_bytes l.text ≡ string_bytes l.initial.text ++ flat_map (refusal_line l.feed) (take l.refused-index l.refusals)
