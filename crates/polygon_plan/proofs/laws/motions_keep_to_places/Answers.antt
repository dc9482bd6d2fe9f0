use Rattle.polygon_plan.proofs.Places.{kept_near}
use Rattle.polygon_plan.proofs.laws.motions_keep_to_places.Goals as goal

pub returns : goal.returns
returns c = kept_near
