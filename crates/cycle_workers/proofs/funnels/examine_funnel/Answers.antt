use Rattle.std.proofs.Common.{◌∙◌, sym}
use Rattle.cycle_workers.proofs.Soon.{funnel_soon}
use Rattle.cycle_workers.proofs.funnels.examine_funnel.Goals as goal

pub funnel_hit-requires : goal.funnel_hit-requires
funnel_hit-requires c =
    record { soon = funnel_soon c.args.m.now.motion c.args.approach.now c.args.set.now c.in_ok-hit.hit c.requires.set c.searches_find_the_first.ensures.finds (sym c.hit.ensures ∙ c.in_ok-hit.was) }
