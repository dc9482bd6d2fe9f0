-- the way along the edge is short, and no way is longer than 64 bits
use Rattle.std.proofs.Common.{◌≡◌, ◌∙◌, refl, ◌-ℤ◌, ◌≤◌, ◌^◌, unsigned_abs, arith}
use Rattle.polygon_plan.proofs.Fits.{AreFar, IsWay, along_is, far_cross_fits, far_cross_is, far_cross_small, far_fits, near_fits, way_is}
use Rattle.polygon_plan.proofs.edge.Edge.cross_to.Goals as goal
use Rattle.polygon_plan.proofs.edge.Edge.cross_to.Goals.{After-difference, After-difference-2}

x_way : (c : After-difference) → IsWay c.args.x c.args.self.now.from.0 c.difference.result
x_way c = let from_x = c.args.self.now.from_near.x in way_is c.args.x c.args.self.now.from.0 c.difference.result c.ranges.x (omega arith) c.difference.ensures

y_way : (c : After-difference-2) → IsWay c.args.y c.args.self.now.from.1 c.difference-2.result
y_way c = let from_y = c.args.self.now.from_near.y in way_is c.args.y c.args.self.now.from.1 c.difference-2.result c.ranges.y (omega arith) c.difference-2.ensures

along_x : (c : After-difference) → (c.difference-along_x.result ≡ c.args.self.now.to.0 -ℤ c.args.self.now.from.0) × (unsigned_abs c.difference-along_x.result ≤ 2 ^ 34)
along_x c = let from_x = c.args.self.now.from_near.x in let to_x = c.args.self.now.to_near.x in along_is c.args.self.now.to.0 c.args.self.now.from.0 c.difference-along_x.result (omega arith) (omega arith) c.difference-along_x.ensures

along_y : (c : After-difference) → (c.difference-along_y.result ≡ c.args.self.now.to.1 -ℤ c.args.self.now.from.1) × (unsigned_abs c.difference-along_y.result ≤ 2 ^ 34)
along_y c = let from_y = c.args.self.now.from_near.y in let to_y = c.args.self.now.to_near.y in along_is c.args.self.now.to.1 c.args.self.now.from.1 c.difference-along_y.result (omega arith) (omega arith) c.difference-along_y.ensures

far : (c : After-difference-2) → AreFar c.difference.result c.difference-2.result c.difference-along_x.result c.difference-along_y.result
far c = let before = (goal.at.After-difference-2 c).After-difference in record { x_far = (x_way before).size; y_far = (y_way c).size; u_short = (along_x before).1; v_short = (along_y before).1 }

pub overflow_mul-result : goal.overflow_mul-result
overflow_mul-result c = far_fits c.difference.result c.difference-along_y.result (x_way c).size (along_y c).1

pub overflow_mul-result-2 : goal.overflow_mul-result-2
overflow_mul-result-2 c = let f = far c in near_fits c.difference-along_x.result c.difference-2.result f.u_short f.y_far

pub overflow_sub-result : goal.overflow_sub-result
overflow_sub-result c = far_cross_fits c.difference.result c.difference-2.result c.difference-along_x.result c.difference-along_y.result (far c)

pub returns-clause-bound : goal.returns-clause-bound
returns-clause-bound c =
    let f = far (goal.at.returns-clause-bound c).After-difference-2 in
    rw (far_cross_is c.difference.result c.difference-2.result c.difference-along_x.result c.difference-along_y.result f) (far_cross_small c.difference.result c.difference-2.result c.difference-along_x.result c.difference-along_y.result f)

pub returns-clause-product : goal.returns-clause-product
returns-clause-product c =
    let after = (goal.at.returns-clause-product c).After-difference-2 in
    let before = (goal.at.After-difference-2 after).After-difference in
    let f = far after in
    far_cross_is c.difference.result c.difference-2.result c.difference-along_x.result c.difference-along_y.result f
    ∙ rw ((x_way before).is, (y_way after).is, (along_x before).0, (along_y before).0) refl
