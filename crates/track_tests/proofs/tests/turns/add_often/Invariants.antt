use Rattle.std.proofs.Common.{◌≡◌, ◌+◌, ◌*◌, ◌≤◌}
use Rattle.std.specs.List.{sum_by}
use Rattle.track_tests.proofs.tests.turns.add_often.Given as goal

abbrev pub invariant-loop-i : goal.invariant-loop-i
invariant-loop-i l = record {
  seat : l.seat ≡ record l.fn.seat { seen = l.seat.seen; mine = l.seat.mine; tried = l.seat.tried };
  sum : sum_by (λ entry. entry.1) l.seat.mine ≡ sum_by (λ entry. entry.1) l.fn.seat.mine + l.sum;
  small : l.sum ≤ l.i * 4294967296;
}
