use Rattle.std.proofs.Common.{◌≡◌, ◌%◌, ◌==◌, take}
use Rattle.polygon_plan.specs.Inside.{crossings, edges}
use Rattle.polygon_plan.proofs.place.inside.Given as goal

abbrev pub invariant-loop-i : goal.invariant-loop-i
invariant-loop-i l = l.odd ≡ (crossings (take l.i (edges l.points)) l.x l.y % 2 == 1)
