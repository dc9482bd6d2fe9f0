use Rattle.std.proofs.Common.{◌≡◌}
use Rattle.terrain_file.specs.Terrain.{heights_of}
use Rattle.terrain_file.proofs.read.heights.Given as goal

abbrev pub invariant-loop-cell : goal.invariant-loop-cell
invariant-loop-cell l = l.heights.items ≡ heights_of l.bytes l.cell
