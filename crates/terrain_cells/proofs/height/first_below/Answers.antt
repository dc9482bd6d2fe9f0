use Rattle.std.proofs.Common.{◌^◌, ◌≤◌, unsigned_abs, arith, w64}
use Rattle.std.proofs.lemmas.Int.{to_z-of_z}
use Rattle.terrain_cells.proofs.Fits.{as_is, height_is}
use Rattle.terrain_cells.proofs.height.first_below.Goals as goal

pub returns : goal.returns
returns c =
    let vz : unsigned_abs c.args.m.now.vz ≤ 2 ^ 15 = c.requires.motion.vz in
    let alt : unsigned_abs c.args.m.now.alt ≤ 2 ^ 32 = c.requires.motion.alt in
    rw (
      as_is c.args.m.now.vz (omega arith),
      as_is c.args.m.now.alt (omega arith),
      height_is c.from.result c.from-2.result c.args.height c.from.ensures c.from-2.ensures c.ranges.height,
      to_z-of_z w64 c.args.from c.ranges.from,
      to_z-of_z w64 c.args.to c.ranges.to,
    ) at c.first_below_limit.ensures
