-- the set whose ends wanted memory has a tick
use Rattle.std.proofs.lemmas.List.Elements.{Contains-get_or}
use Rattle.std.proofs.lemmas.Result.{err_from_is_err_and}
use Rattle.tick_sets.proofs.parity.ends_of.Goals as goal

pub returns-in_err-push_ends-clause-memory : goal.returns-in_err-push_ends-clause-memory
returns-in_err-push_ends-clause-memory c =
    let failed = err_from_is_err_and c.from_residual.result c.from_residual.ensures.1 in
    let tick = c.in_err-push_ends.ensures.memory in
    rw failed.1 (_, tick.0, Contains-get_or c.args.sets.now c.loop-ticks.ticks-index _ c.loop-ticks-test.true, tick.1)
