use Rattle.std.proofs.Common.{arith, w64, SFits, int_div}
use Rattle.std.proofs.lemmas.Int.{ints, to_z-of_z}
use Rattle.tick_sets.proofs.Fits.{quotient_of, quotient_before}
use Rattle.tick_sets.proofs.inequality.tick_quotient.Goals as goal
use mir.Syntax.{w128}

pub returns : goal.returns
returns c =
    let fits_dividend : SFits w128 c.args.dividend = c.ranges.dividend in
    let fits_divisor : SFits w128 c.args.divisor = c.ranges.divisor in
    let fits_l : SFits w64 c.args.l = c.ranges.l in
    let quotient = quotient_of c.args.dividend c.args.divisor c.requires.fraction in
    let before = quotient_before c.args.dividend c.args.divisor c.args.l c.requires in
    let low = quotient.low in
    let fits : SFits w64 (int_div c.args.dividend c.args.divisor) = omega (arith, ints) in
    let wide : SFits w128 (int_div c.args.dividend c.args.divisor) = omega (arith, ints) in
    record { quotient = simp to_z-of_z quotient; before = simp to_z-of_z before }
