use Rattle.std.proofs.Common.{take}
use Rattle.polygon_plan.specs.Inside.{edges}
use Rattle.polygon_plan.specs.Sides.{AreCounted}
use Rattle.polygon_plan.proofs.first.counted.Given as goal

abbrev pub invariant-loop-i : goal.invariant-loop-i
invariant-loop-i l = AreCounted (take l.i (edges l.points)) l.m l.l l.sets.items
