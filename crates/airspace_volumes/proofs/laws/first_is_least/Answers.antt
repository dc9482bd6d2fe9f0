use Rattle.airspace_volumes.proofs.Words.{first_said}
use Rattle.airspace_volumes.proofs.laws.first_is_least.Goals as goal

pub returns : goal.returns
returns c = first_said c.searches_find_the_first.ensures.finds
