use Rattle.std.proofs.Common.{◌≤ℤ◌, arith}
use Rattle.std.proofs.lemmas.Int.{ints}
use Rattle.polygon_plan.proofs.Turns.{kept, turned}
use Rattle.polygon_plan.proofs.edge.Edge.upward.Goals as goal
use Rattle.polygon_plan.proofs.edge.Edge.upward.Goals.{then-self, else-self}

pub returns : goal.returns
returns c =
    elim c.if-self.branch [
      | then-self w ↦ (let h = w.if-self.true in let up : c.args.self.now.from.1 ≤ℤ c.args.self.now.to.1 = omega (arith, ints) in λ x y. rw w.result-is (kept x y c.args.self.now.from c.args.self.now.to up))
      | else-self w ↦ (let h = w.if-self.false in let down : c.args.self.now.to.1 ≤ℤ c.args.self.now.from.1 = omega (arith, ints) in λ x y. rw w.result-is (turned x y c.args.self.now.from c.args.self.now.to down))
    ]
