use Rattle.std.proofs.Common.{◌≡◌, arith, rules, w64, FitsSigned}
use Rattle.std.proofs.lemmas.Int.{to_z-of_z}
use Rattle.stca_fine.specs.Relative.{dx_at, dy_at}
use Rattle.stca_fine.proofs.Apart.{as_is, squares_are}
use Rattle.stca_fine.proofs.relative.Relative.squared_at.Goals as goal
use Rattle.stca_fine.proofs.relative.Relative.squared_at.Goals.{After-square-2}

dx : (c : After-square-2) → c.along.result ≡ dx_at c.args.self.now c.args.tick
dx c =
    let apart = c.self.invariant.0.apart in
    let speed = c.self.invariant.0.speed in
    rw (← c.self.view_is) (rw (as_is c.self.inside.dx (omega arith), as_is c.self.inside.dvx (omega arith)) at c.along.ensures)

dy : (c : After-square-2) → c.along-2.result ≡ dy_at c.args.self.now c.args.tick
dy c =
    let apart = c.self.invariant.1.apart in
    let speed = c.self.invariant.1.speed in
    rw (← c.self.view_is) (rw (as_is c.self.inside.dy (omega arith), as_is c.self.inside.dvy (omega arith)) at c.along-2.ensures)

pub returns : goal.returns
returns c =
    let fits_dx : FitsSigned w64 c.along.result = search rules in
    let fits_dy : FitsSigned w64 c.along-2.result = search rules in
    let square_x = rw (to_z-of_z w64 c.along.result fits_dx, dx c) at c.square.ensures.square in
    let square_y = rw (to_z-of_z w64 c.along-2.result fits_dy, dy c) at c.square-2.ensures.square in
    rw (square_x, square_y) (squares_are (dx_at c.args.self.now c.args.tick) (dy_at c.args.self.now c.args.tick))
