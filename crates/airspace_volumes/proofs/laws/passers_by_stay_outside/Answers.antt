use Rattle.airspace_volumes.proofs.Words.{outside_said}
use Rattle.airspace_volumes.proofs.laws.passers_by_stay_outside.Goals as goal

pub returns : goal.returns
returns c = outside_said
