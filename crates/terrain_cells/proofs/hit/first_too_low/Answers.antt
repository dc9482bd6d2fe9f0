use Rattle.std.proofs.Common.{rules, FitsSigned, w64}
use Rattle.std.proofs.lemmas.Int.{to_z-of_z}
use Rattle.terrain_cells.specs.Msaw.{is_too_low_at}
use Rattle.terrain_cells.proofs.Hits.{found_from}
use Rattle.terrain_cells.proofs.hit.first_too_low.Goals as goal

pub returns : goal.returns
returns c =
    let fits : FitsSigned w64 c.in_ok-start.start = search rules in
    let look_is = to_z-of_z w64 c.args.look c.ranges.look in
    let start = rw look_is at c.in_ok-start.ensures in
    let found = rw (c.terrain.ensures, to_z-of_z w64 c.in_ok-start.start fits, look_is) at c.first_too_low_from.ensures in
    found_from (is_too_low_at c.args.m.now c.args.ground.now) c.args.look c.in_ok-start.start c.first_too_low_from.result start found
