use Rattle.std.proofs.Common.{refl}
use Rattle.tick_sets.proofs.Newton.{word_sum_fits, word_start, step_keeps}
use Rattle.tick_sets.proofs.root.word_root.Goals as goal

pub overflow_add-root : goal.overflow_add-root
overflow_add-root c = record { fits = word_sum_fits c.args.n _ c.ranges.n.fits refl }

pub loop-root-init : goal.loop-root-init
loop-root-init c = word_start c.args.n _ c.ranges.n.fits refl

pub loop-root-preserved : goal.loop-root-preserved
loop-root-preserved c = step_keeps c.args.n c.loop-root.root _ c.loop-root-test.true c.loop-root.invariant.1
