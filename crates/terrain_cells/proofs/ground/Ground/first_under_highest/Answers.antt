use Rattle.std.proofs.Common.{rules, FitsSigned, w16, w64}
use Rattle.std.proofs.lemmas.Int.{to_z-of_z}
use Rattle.terrain_cells.proofs.Heights.{start_under}
use Rattle.terrain_cells.proofs.ground.Ground.first_under_highest.Goals as goal

pub returns : goal.returns
returns c =
    let fits : FitsSigned w16 c.self.inside.highest = search rules in
    let found = rw (to_z-of_z w16 c.self.inside.highest fits, to_z-of_z w64 c.args.look c.ranges.look) at c.first_below.ensures in
    rw (← c.self.view_is) (start_under c.args.m.now c.self.inside.terrain.now c.self.inside.highest c.args.look c.first_below.result c.self.invariant c.requires.look found)
