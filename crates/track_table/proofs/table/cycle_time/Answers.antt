use Rattle.std.proofs.Common.{◌≡◌, ℤ, pos, ◌+◌, ◌+ℤ◌, ◌*ℤ◌, ◌^◌, ◌<◌, w64, FitsSigned, to_z, of_z, arith, rules}
use mir.Syntax.{w128}
use Rattle.std.proofs.lemmas.Int.{to_z-of_z, fits_signed_from_abs, ints}
use Rattle.track_table.specs.Times.{IsTime, cycle_time}
use Rattle.track_table.proofs.table.cycle_time.Goals as goal
use Rattle.track_table.proofs.table.cycle_time.Goals.{After-from-3}

-- what is added to the start has room in 128 bits
added_fits : (start added : ℤ) → FitsSigned w64 start → IsTime (start +ℤ added) → FitsSigned w128 added
added_fits start added fits time = let low = time.low in let high = time.high in fits_signed_from_abs w128 added (omega (arith, ints))

wider : (w : ℤ) → IsTime w → FitsSigned w128 w
wider w time = let low = time.low in let high = time.high in fits_signed_from_abs w128 w (omega (arith, ints))

time_fits : (w : ℤ) → IsTime w → FitsSigned w64 w
time_fits w time = let low = time.low in let high = time.high in fits_signed_from_abs w64 w (omega (arith, ints))

computed : (c : After-from-3) → to_z w128 (of_z w128 (to_z w128 (of_z w128 c.from.result) +ℤ to_z w128 (of_z w128 (to_z w128 (of_z w128 (to_z w128 (of_z w128 c.from-2.result) +ℤ pos 1)) *ℤ to_z w128 (of_z w128 c.from-3.result))))) ≡ cycle_time c.args.start c.args.period c.args.k
computed c =
    let start : FitsSigned w64 c.args.start = c.ranges.start in
    let period : FitsSigned w64 c.args.period = c.ranges.period in
    let few : c.args.k < 2 ^ 64 = search rules in
    let wide_start : FitsSigned w128 c.args.start = fits_signed_from_abs w128 _ (omega (arith, ints)) in
    let wide_period : FitsSigned w128 c.args.period = fits_signed_from_abs w128 _ (omega (arith, ints)) in
    let wide_cycle : FitsSigned w128 (pos c.args.k) = fits_signed_from_abs w128 _ (omega (arith, ints)) in
    let wide_next : FitsSigned w128 (pos (c.args.k + 1)) = fits_signed_from_abs w128 _ (omega (arith, ints)) in
    let wide_added : FitsSigned w128 (pos (c.args.k + 1) *ℤ c.args.period) = added_fits c.args.start (pos (c.args.k + 1) *ℤ c.args.period) start c.requires in
    let wide_time : FitsSigned w128 (cycle_time c.args.start c.args.period c.args.k) = wider (cycle_time c.args.start c.args.period c.args.k) c.requires in
    let from_start = simp to_z-of_z at c.from.ensures in
    let from_period = simp to_z-of_z at c.from-3.ensures in
    rw (from_start, c.from-2.ensures, from_period) (simp to_z-of_z)

pub overflow_cast-result : goal.overflow_cast-result
overflow_cast-result c = rw (computed c) (time_fits (cycle_time c.args.start c.args.period c.args.k) c.requires)

pub returns : goal.returns
returns c =
    let fits = time_fits (cycle_time c.args.start c.args.period c.args.k) c.requires in
    rw (computed c) (simp to_z-of_z)
