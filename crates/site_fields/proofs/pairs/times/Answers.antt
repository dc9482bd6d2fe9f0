use Rattle.std.proofs.Common.{w32, FitsSigned}
use Rattle.std.proofs.lemmas.Int.{to_z-of_z}
use Rattle.site_fields.proofs.Units.{times_fits, times_is}
use Rattle.site_fields.proofs.pairs.times.Goals as goal

pub overflow_mul-result : goal.overflow_mul-result
overflow_mul-result c =
    let number : FitsSigned w32 c.args.number = c.ranges.number in
    let from_number = simp to_z-of_z at c.from.ensures in
    rw (from_number, c.from-2.ensures) (times_fits c.args.number c.args.units number c.ranges.units.fits)

pub returns : goal.returns
returns c =
    let number : FitsSigned w32 c.args.number = c.ranges.number in
    let from_number = simp to_z-of_z at c.from.ensures in
    rw (from_number, c.from-2.ensures) (times_is c.args.number c.args.units number c.ranges.units.fits)
