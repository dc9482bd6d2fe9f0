use Rattle.std.proofs.Common.{◌≡◌, Ok, Some, refl, rules}
use Rattle.cycle_workers.specs.Settings.{Setting, setting}
use Rattle.replay_cli.specs.Endings.{change, StopsAmong, StopsTerrain}
use Rattle.replay_cli.specs.Found.{request, IsReading}
use Rattle.replay_cli.specs.Statuses.{sunk}
use Rattle.command_words.specs.Words.{texts}
use Rattle.replay_cli.specs.declared.request.Request.{Request}
use Rattle.replay_cli.proofs.Under.{AreRead, IsSettled, counts_pairs, ends_at_work, may_write, has_begun, stops_at_feeds, stops_at_site, stops_at_terrain, stops_later_among, stops_later_terrain}
use Rattle.replay_cli.proofs.top.replay.Goals as goal

pub returns-in_err-site-2-clause-ends : goal.returns-in_err-site-2-clause-ends
returns-in_err-site-2-clause-ends g c =
    let r : Request = c.in_ok-site.field-0 in
    let asked : request (texts c.args.words.now) ≡ Some r = c.in_ok-site.ensures.asked in
    let stops = stops_at_site (g.W.World.files c.args.world.now) (texts c.args.words.now) r c.in_err-site-2.field-0.0 (g.W.World.faults c.args.world.now) (g.W.World.faults c.site_of.new.world)
    (sunk (g.K.Sink.taken c.args.out.now) (g.K.Sink.taken c.args.out.now) (g.K.Sink.faults c.args.out.now) (g.K.Sink.faults c.args.out.now)) refl asked c.in_err-site-2.ensures.fault in
    search rules

pub returns-in_err-terrain-clause-ends : goal.returns-in_err-terrain-clause-ends
returns-in_err-terrain-clause-ends g c =
    let r : Request = c.in_ok-site.field-0 in
    let asked : request (texts c.args.words.now) ≡ Some r = c.in_ok-site.ensures.asked in
    let reading : IsReading (g.W.World.files c.args.world.now) r.site (Ok c.in_ok-site-2.site) = c.in_ok-site-2.ensures.site in
    let stops : StopsTerrain (g.W.World.files c.args.world.now) (g.W.World.faults c.args.world.now) (g.W.World.faults c.terrain_of.new.world) c.in_ok-site-2.site.terrain c.in_err-terrain.field-0.0 =
    rw (← c.in_ok-site-2.ensures.files) (stops_later_terrain _ _ _ _ _ _ c.site_of.ensures.later c.in_err-terrain.ensures.fault) in
    let ends = stops_at_terrain (g.W.World.files c.args.world.now) (texts c.args.words.now) r c.in_ok-site-2.site c.in_err-terrain.field-0.0 (g.W.World.faults c.args.world.now) (g.W.World.faults c.terrain_of.new.world)
    (sunk (g.K.Sink.taken c.args.out.now) (g.K.Sink.taken c.args.out.now) (g.K.Sink.faults c.args.out.now) (g.K.Sink.faults c.args.out.now)) refl asked reading stops in
    search rules

pub returns-in_err-inputs-clause-ends : goal.returns-in_err-inputs-clause-ends
returns-in_err-inputs-clause-ends g c =
    let r : Request = c.in_ok-site.field-0 in
    let s : Setting = setting c.in_ok-site-2.site c.in_ok-terrain.terrain in
    let asked : request (texts c.args.words.now) ≡ Some r = c.in_ok-site.ensures.asked in
    let settled : IsSettled (g.W.World.files c.args.world.now) r s = record { site = c.in_ok-site-2.ensures.site; terrain = rw (← c.in_ok-site-2.ensures.files) c.in_ok-terrain.ensures.terrain } in
    let stops : StopsAmong (g.W.World.files c.args.world.now) (g.W.World.faults c.args.world.now) (g.W.World.faults c.feeds_of.new.world) r.feeds c.in_err-inputs.field-0.0 =
    rw (← c.in_ok-site-2.ensures.files, ← c.in_ok-terrain.ensures.files)
    (stops_later_among _ _ _ _ _ _ c.site_of.ensures.later (stops_later_among _ _ _ _ _ _ c.terrain_of.ensures.later c.in_err-inputs.ensures.fault)) in
    let ends = stops_at_feeds (g.W.World.files c.args.world.now) (texts c.args.words.now) r s c.in_err-inputs.field-0.0 (g.W.World.faults c.args.world.now) (g.W.World.faults c.feeds_of.new.world)
    (sunk (g.K.Sink.taken c.args.out.now) (g.K.Sink.taken c.args.out.now) (g.K.Sink.faults c.args.out.now) (g.K.Sink.faults c.args.out.now)) refl asked settled stops in
    search rules

pub returns-clause-ends : goal.returns-clause-ends
returns-clause-ends g c =
    let r : Request = c.in_ok-site.field-0 in
    let s : Setting = setting c.in_ok-site-2.site c.in_ok-terrain.terrain in
    let asked : request (texts c.args.words.now) ≡ Some r = c.in_ok-site.ensures.asked in
    let settled : IsSettled (g.W.World.files c.args.world.now) r s = record { site = c.in_ok-site-2.ensures.site; terrain = rw (← c.in_ok-site-2.ensures.files) c.in_ok-terrain.ensures.terrain } in
    let read : AreRead (g.W.World.files c.args.world.now) r s c.in_ok-inputs.inputs.items = record { settled = settled; feeds = rw (← c.in_ok-site-2.ensures.files, ← c.in_ok-terrain.ensures.files) c.in_ok-inputs.ensures.told } in
    ends_at_work (g.W.World.files c.args.world.now) (texts c.args.words.now) r s c.in_ok-inputs.inputs.items c.work_of.result
    (change (g.W.World.faults c.args.world.now) (g.W.World.faults c.feeds_of.new.world))
    (sunk (g.K.Sink.taken c.args.out.now) (g.K.Sink.taken c.work_of.new.out) (g.K.Sink.faults c.args.out.now) (g.K.Sink.faults c.work_of.new.out))
    asked read (rw c.deref.ensures.value at c.work_of.ensures.work) (rw c.deref.ensures.value at c.work_of.ensures.alerts) (rw c.deref.ensures.value at c.work_of.ensures.prefix) c.work_of.ensures.fault c.work_of.ensures.broken
