use Rattle.std.proofs.Common.{rules, FitsSigned, IsTrue, ◌↔◌, unsigned_abs, arith, w64}
use Rattle.std.proofs.lemmas.Int.{to_z-of_z}
use Rattle.airspace_volumes.specs.Bounds.{StaysBeside}
use Rattle.airspace_volumes.proofs.Either.{first_fails, first_holds}
use Rattle.airspace_volumes.proofs.Fits.{as_is}
use Rattle.airspace_volumes.proofs.bounds.Bounds.stays_outside.Goals as goal
use Rattle.airspace_volumes.proofs.bounds.Bounds.stays_outside.Goals.{After-stays_beside}

along_x : (c : After-stays_beside) → IsTrue c.stays_beside.result ↔ StaysBeside c.args.m.now.x c.args.m.now.vx c.args.self.left c.args.self.right (unsigned_abs c.args.look)
along_x c =
    let x = c.requires.motion.x in
    let vx = c.requires.motion.vx in
    let left : FitsSigned w64 c.args.self.left = search rules in
    let right : FitsSigned w64 c.args.self.right = search rules in
    rw (
      as_is c.args.m.now.x (omega arith),
      as_is c.args.m.now.vx (omega arith),
      to_z-of_z w64 c.args.self.left left,
      to_z-of_z w64 c.args.self.right right,
      to_z-of_z w64 c.args.look c.ranges.look,
    ) at c.stays_beside.ensures

pub returns-then-stays_beside : goal.returns-then-stays_beside
returns-then-stays_beside c = first_holds c.stays_beside.result c.if-stays_beside.true (along_x (goal.at.returns-then-stays_beside c).After-stays_beside)

pub returns-else-stays_beside : goal.returns-else-stays_beside
returns-else-stays_beside c =
    let y = c.requires.motion.y in
    let vy = c.requires.motion.vy in
    let lower : FitsSigned w64 c.args.self.lower = search rules in
    let upper : FitsSigned w64 c.args.self.upper = search rules in
    let along_y = rw (
      as_is c.args.m.now.y (omega arith),
      as_is c.args.m.now.vy (omega arith),
      to_z-of_z w64 c.args.self.lower lower,
      to_z-of_z w64 c.args.self.upper upper,
      to_z-of_z w64 c.args.look c.ranges.look,
    ) at c.stays_beside-else-stays_beside.ensures in
    first_fails c.stays_beside.result c.stays_beside-else-stays_beside.result c.if-stays_beside.false (along_x (goal.at.returns-else-stays_beside c).After-stays_beside) along_y
