use Rattle.std.proofs.Common.{◌<◌, length, take}
use Rattle.airspace_volumes.specs.Bounds.{AreLeast, AreWithin}
use Rattle.airspace_volumes.proofs.bounds.Bounds.of.Given as goal

abbrev pub invariant-loop-x : goal.invariant-loop-x
invariant-loop-x l = AreWithin l.bounds (take l.x-index l.points) × (0 < length l.points → AreLeast l.bounds l.points)
