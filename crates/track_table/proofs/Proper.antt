-- Which tables are proper.
use Rattle.std.proofs.Common.{◌≤◌, ℕ, List, ℤ, pos, ◌≤ℤ◌, ◌<ℤ◌, ◌-ℤ◌, ◌+◌, ◌*◌, arith}
use Rattle.std.specs.List.{All}
use Rattle.std.proofs.lemmas.Int.{ints}
use Rattle.std.proofs.lemmas.List.Elements.{All-contains, All-from_recursion, recursion_from_All}
use Rattle.track_motion.specs.declared.motion.TheConstants.{LONGEST_AGE}
use Rattle.track_motion.specs.declared.rank.Stamped.{Stamped}
use Rattle.track_motion.specs.Motions.{CanMove}
use Rattle.track_table.specs.Proper.{IsProper, IsTold, frozen_of}
use Rattle.track_table.specs.Tables.{IsRowOf, table}
use Rattle.track_table.specs.Times.{cycle_time}
use Rattle.track_table.proofs.TableRows.{each_weaker, rows_are, rows_rise}

product_rises : (p m n : ℕ) → m ≤ n → p * m ≤ p * n
product_rises p m n rises = grind arith

ends_at : (start : ℤ) (p j k : ℕ) → j ≤ k → cycle_time start (pos p) j ≤ℤ cycle_time start (pos p) k
ends_at start p j k rises = let products = product_rises p (j + 1) (k + 1) (omega arith) in omega (arith, ints)

-- a cycle ends no later than those after it
pub ends_rise : (start period : ℤ) (j k : ℕ) → pos 0 ≤ℤ period → j ≤ k → cycle_time start period j ≤ℤ cycle_time start period k
ends_rise start (pos p) j k some rises = ends_at start p j k rises
ends_rise start _ j k some rises = absurd (omega (arith, ints))

told_before : (at end time : ℤ) → at <ℤ end → end ≤ℤ time → at ≤ℤ time
told_before at end time before order = omega (arith, ints)

younger : (age timeout longest : ℤ) → age ≤ℤ timeout → timeout ≤ℤ longest → age ≤ℤ longest
younger age timeout longest recent short = omega (arith, ints)

moves : (start period timeout : ℤ) (k : ℕ) (records : List Stamped) → pos 0 ≤ℤ period → timeout ≤ℤ pos LONGEST_AGE → All (IsTold start period) records →
    (r : Stamped) → IsRowOf start period timeout k records r → CanMove r (cycle_time start period k)
moves start period timeout k records some short told r row =
    let is = All-contains (IsTold start period) records r told row.one in
    record {
      later = told_before r.at (cycle_time start period r.window) (cycle_time start period k) is.time (ends_rise start period r.window k some row.told);
      recent = younger (cycle_time start period k -ℤ r.at) timeout (pos LONGEST_AGE) row.recent short;
      place = is.seen.place;
      level = is.seen.level;
    }

pub proper : (start period timeout : ℤ) (k : ℕ) (records : List Stamped) → pos 0 ≤ℤ period → timeout ≤ℤ pos LONGEST_AGE → All (IsTold start period) records → IsProper (frozen_of start period timeout k records)
proper start period timeout k records some short told =
    let rows = table start period timeout k records in
    record {
      keys = rows_rise start period timeout k records;
      rows = All-from_recursion (λ (r : Stamped). CanMove r (cycle_time start period k)) rows
          (each_weaker (IsRowOf start period timeout k records) (λ r. CanMove r (cycle_time start period k)) (moves start period timeout k records some short told) rows
          (recursion_from_All (IsRowOf start period timeout k records) rows (rows_are start period timeout k records)));
    }
