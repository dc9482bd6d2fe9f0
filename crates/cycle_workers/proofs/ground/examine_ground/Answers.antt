use Rattle.std.proofs.Common.{◌∙◌, sym}
use Rattle.cycle_workers.proofs.Soon.{ground_soon}
use Rattle.cycle_workers.proofs.ground.examine_ground.Goals as goal

pub tick_hit-requires : goal.tick_hit-requires
tick_hit-requires c =
    record { soon = ground_soon c.args.m.now.motion c.args.ground.now c.args.set.now c.in_ok-hit.hit c.requires.set c.searches_find_the_first.ensures.finds (sym c.hit.ensures ∙ c.in_ok-hit.was) }
