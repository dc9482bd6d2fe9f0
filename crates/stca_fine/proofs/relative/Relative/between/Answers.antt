use Rattle.std.proofs.Common.{arith}
use Rattle.stca_fine.proofs.Apart.{difference_is}
use Rattle.stca_fine.proofs.relative.Relative.between.Goals as goal

pub returns : goal.returns
returns c =
    let a = c.requires.first in
    let b = c.requires.second in
    rw (
      difference_is c.args.b.now.x c.args.a.now.x (omega arith) (omega arith),
      difference_is c.args.b.now.y c.args.a.now.y (omega arith) (omega arith),
      difference_is c.args.b.now.z c.args.a.now.z (omega arith) (omega arith),
      difference_is c.args.b.now.vx c.args.a.now.vx (omega arith) (omega arith),
      difference_is c.args.b.now.vy c.args.a.now.vy (omega arith) (omega arith),
      difference_is c.args.b.now.vz c.args.a.now.vz (omega arith) (omega arith),
    )
