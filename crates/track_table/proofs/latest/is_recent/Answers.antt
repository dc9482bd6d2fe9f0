use Rattle.std.proofs.Common.{◌-ℤ◌, w64, FitsSigned, arith, rules}
use mir.Syntax.{w128}
use Rattle.std.proofs.lemmas.Int.{to_z-of_z, fits_signed_from_abs, ints}
use Rattle.track_table.proofs.latest.is_recent.Goals as goal

pub returns : goal.returns
returns c =
    let at : FitsSigned w64 c.args.row.now.at = search rules in
    let time = c.ranges.time in
    let timeout = c.ranges.timeout in
    let wide_at : FitsSigned w128 c.args.row.now.at = fits_signed_from_abs w128 _ (omega (arith, ints)) in
    let wide_time : FitsSigned w128 c.args.time = fits_signed_from_abs w128 _ (omega (arith, ints)) in
    let wide_timeout : FitsSigned w128 c.args.timeout = fits_signed_from_abs w128 _ (omega (arith, ints)) in
    let wide_age : FitsSigned w128 (c.args.time -ℤ c.args.row.now.at) = fits_signed_from_abs w128 _ (omega (arith, ints)) in
    let from_time = simp to_z-of_z at c.from.ensures in
    let from_at = simp to_z-of_z at c.from-2.ensures in
    let from_timeout = simp to_z-of_z at c.from-3.ensures in
    rw (from_time, from_at, from_timeout) (simp to_z-of_z)
