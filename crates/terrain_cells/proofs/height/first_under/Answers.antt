use Rattle.std.proofs.Common.{rules, FitsSigned, w16, w64}
use Rattle.std.proofs.lemmas.Int.{to_z-of_z}
use Rattle.terrain_cells.proofs.Heights.{found_under}
use Rattle.terrain_cells.proofs.height.first_under.Goals as goal

pub returns : goal.returns
returns c =
    let fits : FitsSigned w16 c.in_ok-height.field-0 = search rules in
    let found = rw (to_z-of_z w16 c.in_ok-height.field-0 fits, to_z-of_z w64 c.args.from c.ranges.from, to_z-of_z w64 c.args.to c.ranges.to) at c.first_below.ensures in
    found_under c.args.m.now c.args.height c.in_ok-height.field-0 c.args.from c.args.to c.first_below.result c.in_ok-height.was found
