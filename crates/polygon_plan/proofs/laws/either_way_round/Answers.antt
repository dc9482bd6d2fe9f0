use Rattle.polygon_plan.proofs.Round.{inside_back}
use Rattle.polygon_plan.proofs.laws.either_way_round.Goals as goal

pub returns : goal.returns
returns c = inside_back
