use Rattle.std.proofs.Common.{unsigned_abs, w64}
use Rattle.std.proofs.lemmas.Int.{to_z-of_z}
use Rattle.airspace_volumes.proofs.Beside.{outside}
use Rattle.airspace_volumes.proofs.area.Area.passes_by.Goals as goal

pub returns-clause-all : goal.returns-clause-all
returns-clause-all c = λ some passes.
    let inner_some = rw (← c.self.view_is) at some in
    let inner_passes = rw (← c.self.view_is) at passes in
    c.stays_outside.ensures.1 (rw (to_z-of_z w64 c.args.look c.ranges.look) (outside c.self.inside.bounds c.self.inside.volume.now.points c.args.m.now (unsigned_abs c.args.look) c.self.invariant inner_some inner_passes))
