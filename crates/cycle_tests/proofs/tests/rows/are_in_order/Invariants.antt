-- each key so far is below the next
use Rattle.std.proofs.Common.{◌≡◌, ℕ, ◌+◌, ◌<◌, get_or}
use Rattle.std.specs.declared.cmp.Ordering.TheVariants.{Less}
use Rattle.track_motion.specs.Keys.{key_cmp}
use Rattle.cycle_tests.proofs.Rows.{no_row}
use Rattle.cycle_tests.proofs.tests.rows.are_in_order.Given as goal

abbrev pub invariant-loop-i : goal.invariant-loop-i
invariant-loop-i l = (k : ℕ) → k + 1 < l.i → key_cmp (get_or l.rows k no_row).track.key (get_or l.rows (k + 1) no_row).track.key ≡ Less
