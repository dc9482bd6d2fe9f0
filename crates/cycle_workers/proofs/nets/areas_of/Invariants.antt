-- the areas of the volumes so far were made
use Rattle.std.proofs.Common.{◌≡◌, take}
use Rattle.cycle_workers.proofs.nets.areas_of.Given as goal

abbrev pub invariant-loop-volume : goal.invariant-loop-volume
invariant-loop-volume l = l.areas.items ≡ take l.volume-index l.volumes
