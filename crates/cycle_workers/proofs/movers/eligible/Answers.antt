use Rattle.std.proofs.Common.{◌∙◌, refl}
use Rattle.std.specs.List.{filter_map}
use Rattle.cycle_workers.specs.Eligible.{if_enabled}
use Rattle.cycle_workers.proofs.Sites.{eligible_of}
use Rattle.cycle_workers.proofs.movers.eligible.Goals as goal

pub returns-clause-movers : goal.returns-clause-movers
returns-clause-movers c =
    let found = filter_map (if_enabled c.args.site.now c.args.net) c.deref.result.now in
    rw (eligible_of c.args.site.now c.args.net c.args.f.now c.deref.result.now found (c.deref.ensures.value ∙ c.in_ok-all.ensures.movers) refl) at c.enabled.ensures.movers
