use Rattle.polygon_plan.proofs.Edges.{edge_inside, edge_last}
use Rattle.polygon_plan.proofs.edge.edge_at.Goals as goal
use Rattle.polygon_plan.proofs.edge.edge_at.Goals.{then-i-points, else-i-points}

pub returns : goal.returns
returns c =
    elim c.if-i-points.branch [
      | then-i-points w ↦ rw w.to-is (edge_inside c.args.points.now c.args.i w.if-i-points.true)
      | else-i-points w ↦ rw w.to-is (edge_last c.args.points.now c.args.i c.requires.index w.if-i-points.false)
    ]
