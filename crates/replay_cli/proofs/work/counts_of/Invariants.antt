-- the feeds so far were counted
use Rattle.std.proofs.Common.{◌≡◌, map, take}
use Rattle.feed_reader.specs.Counts.{feed_count}
use Rattle.replay_cli.proofs.work.counts_of.Given as goal

abbrev pub invariant-loop-input : goal.invariant-loop-input
invariant-loop-input l = record {
  counted : l.counts.items ≡ map feed_count (take l.input-index l.inputs);
}
