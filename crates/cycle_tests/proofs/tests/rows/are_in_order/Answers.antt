use Rattle.std.proofs.Common.{◌≡◌, ℕ, ◌+◌, ◌<◌, map, length, get_or, arith}
use Rattle.std.specs.declared.cmp.Ordering.TheVariants.{Less}
use Rattle.std.proofs.lemmas.List.{length-map}
use Rattle.std.proofs.Math.ListN.{get_or-map}
use Rattle.std.proofs.lemmas.Map.Keys.{sorted_from_all_adjacent}
use Rattle.track_motion.specs.declared.rank.Stamped.{Stamped}
use Rattle.track_motion.specs.declared.track.TrackKey.{TrackKey}
use Rattle.track_motion.specs.Keys.{key_cmp}
use Rattle.cycle_tests.proofs.Rows.{key_total, no_row}
use Rattle.cycle_tests.proofs.tests.rows.are_in_order.Goals as goal

pub returns : goal.returns
returns c = λ yes.
    let rows = c.args.rows.now in
    let key : Stamped → TrackKey = λ (r : Stamped). r.track.key in
    let long = length-map rows key in
    let up : (k : ℕ) → k + 1 < length (map key rows) → key_cmp (get_or (map key rows) k no_row.track.key) (get_or (map key rows) (k + 1) no_row.track.key) ≡ Less
    = λ k before. rw (get_or-map key rows k no_row, get_or-map key rows (k + 1) no_row) (c.loop-i.invariant k (omega arith)) in
    sorted_from_all_adjacent key_total (map key rows) no_row.track.key up
