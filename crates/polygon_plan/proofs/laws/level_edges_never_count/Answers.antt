use Rattle.polygon_plan.proofs.Turns.{level}
use Rattle.polygon_plan.proofs.laws.level_edges_never_count.Goals as goal

pub returns : goal.returns
returns c = level
