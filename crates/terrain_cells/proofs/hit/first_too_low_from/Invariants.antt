use Rattle.std.proofs.Common.{pos, ◌+ℤ◌, ◌-ℤ◌, ◌≤ℤ◌, unsigned_abs}
use Rattle.terrain_cells.specs.Msaw.{is_too_low_at}
use Rattle.terrain_cells.specs.Stays.{IsKept}
use Rattle.terrain_cells.proofs.Walking.{FailsBefore}
use Rattle.terrain_cells.proofs.hit.first_too_low_from.Given as goal

abbrev pub invariant-loop-tick : goal.invariant-loop-tick
invariant-loop-tick l = record {
  from : l.from ≤ℤ l.tick;
  until : l.tick ≤ℤ (l.look +ℤ pos 1);
  clear : FailsBefore (is_too_low_at l.m l.terrain) l.from l.tick;
  column : IsKept l.columns l.tick l.look l.column;
  row : IsKept l.rows l.tick l.look l.row;
}

abbrev pub decreases-loop-tick : goal.decreases-loop-tick
decreases-loop-tick l = unsigned_abs (l.look +ℤ pos 1 -ℤ l.tick)
