use Rattle.std.proofs.Common.{◌+◌, arith}
use Rattle.std.proofs.lemmas.List.{length-take, length-drop}
use Rattle.cycle_workers.proofs.Pairs.{countable, pairs_left}
use Rattle.cycle_workers.proofs.hits.pair_hits.Goals as goal

pub overflow_add-examined : goal.overflow_add-examined
overflow_add-examined g c =
    let all = countable c.args.movers.now (omega arith) in
    let left = pairs_left c.args.movers.now c.loop-i.i c.loop-i-test.true in
    let same = c.loop-i.invariant.examined in
    simp (length-take, length-drop) (omega (arith, all, length-drop (c.loop-i.i + 1) c.args.movers.now))
