use Rattle.std.proofs.Common.{◌≡◌, ◌+◌}
use Rattle.track_tests.proofs.tests.turns.split_often.Given as goal

abbrev pub invariant-loop-i : goal.invariant-loop-i
invariant-loop-i l = record { seat : l.first ≡ record l.fn.first { made = l.first.made }; made : l.first.made ≡ l.fn.first.made + l.made; all : l.made ≡ l.i }
