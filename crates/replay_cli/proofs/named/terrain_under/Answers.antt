use Rattle.std.proofs.Common.{◌≡◌, Ok}
use Rattle.terrain_file.specs.Terrain.{terrain_of}
use Rattle.replay_cli.proofs.Under.{stops_refused_terrain, terrain_reading_is}
use Rattle.replay_cli.proofs.named.terrain_under.Goals as goal

pub returns-in-Ok-read_terrain-clause-terrain : goal.returns-in-Ok-read_terrain-clause-terrain
returns-in-Ok-read_terrain-clause-terrain g c =
    let read : terrain_of c.in-Ok.bytes.items ≡ Ok c.in-Ok-read_terrain.terrain = rw c.deref.ensures.value at c.in-Ok-read_terrain.ensures.ok in
    terrain_reading_is (g.W.World.files c.args.world.now) c.args.name c.in-Ok.bytes.items (Ok c.in-Ok-read_terrain.terrain) (rw c.as_str.ensures at c.in-Ok.ensures.told) read

pub returns-clause-fault : goal.returns-clause-fault
returns-clause-fault g c =
    rw c.refused_terrain.ensures (stops_refused_terrain (g.W.World.files c.args.world.now) (g.W.World.faults c.args.world.now) (g.W.World.faults c.text_under.new.world) c.args.name c.in-Ok.bytes.items c.in-Err-read_terrain.fault
    (rw c.as_str.ensures at c.in-Ok.ensures.told) (rw c.deref.ensures.value at c.in-Err-read_terrain.ensures.fault))
