-- the approaches of the funnels so far were made
use Rattle.std.proofs.Common.{◌≡◌, take}
use Rattle.cycle_workers.proofs.nets.approaches_of.Given as goal

abbrev pub invariant-loop-funnel : goal.invariant-loop-funnel
invariant-loop-funnel l = l.approaches.items ≡ take l.funnel-index l.funnels
