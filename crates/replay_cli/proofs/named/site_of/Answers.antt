use Rattle.std.proofs.Common.{◌≡◌, Ok}
use Rattle.site_params.specs.Site.{site_of_text}
use Rattle.replay_cli.proofs.Under.{reading_is, stops_refused}
use Rattle.replay_cli.proofs.named.site_of.Goals as goal

pub returns-in-Ok-read_site-clause-site : goal.returns-in-Ok-read_site-clause-site
returns-in-Ok-read_site-clause-site g c =
    let read : site_of_text c.in-Ok.text.items ≡ Ok c.in-Ok-read_site.site = rw c.deref.ensures.value at c.in-Ok-read_site.ensures.ok in
    reading_is (g.W.World.files c.args.world.now) c.args.name c.in-Ok.text.items (Ok c.in-Ok-read_site.site) (rw c.as_str.ensures at c.in-Ok.ensures.told) read

pub returns-clause-fault : goal.returns-clause-fault
returns-clause-fault g c =
    rw c.refused.ensures (stops_refused (g.W.World.files c.args.world.now) (g.W.World.faults c.args.world.now) (g.W.World.faults c.text_under.new.world) c.args.name c.in-Ok.text.items c.in-Err-read_site.fault
    (rw c.as_str.ensures at c.in-Ok.ensures.told) (rw c.deref.ensures.value at c.in-Err-read_site.ensures.fault))
