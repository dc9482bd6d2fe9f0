use Rattle.polygon_plan.proofs.Round.{inside_turned}
use Rattle.polygon_plan.proofs.laws.any_point_is_the_first.Goals as goal

pub returns : goal.returns
returns c = inside_turned
