-- each turn takes the next bytes
use Rattle.std.proofs.Common.{arith, rules}
use Rattle.std.proofs.lemmas.Grind.{common_steps}
use Rattle.outside_io.proofs.Pieces.{appends-next, rest_length}
use Rattle.outside_io.proofs.sink.write_whole.Goals as goal

pub loop-done-preserved : goal.loop-done-preserved
loop-done-preserved g c = record {
  within = grind (arith, common_steps, rest_length);
  taken = search (rules, appends-next);
  kept = grind (arith, common_steps);
}
