use Rattle.std.proofs.Common.{rules, FitsSigned, w64}
use Rattle.std.proofs.lemmas.Int.{to_z-of_z}
use Rattle.terrain_cells.proofs.Bands.{stay_in}
use Rattle.terrain_cells.proofs.axis.Axis.stay_from.Goals as goal

pub returns : goal.returns
returns c =
    let fits : FitsSigned w64 c.last_in.result = search rules in
    let last = rw (to_z-of_z w64 c.args.tick c.ranges.tick, to_z-of_z w64 c.args.look c.ranges.look) at c.last_in.ensures in
    rw (to_z-of_z w64 c.last_in.result fits) (stay_in c.args.self.now c.band_of-band.result _ c.args.tick c.args.look c.last_in.result c.band_of-band.ensures last)
