use Rattle.airspace_volumes.proofs.Words.{hit_said}
use Rattle.airspace_volumes.proofs.laws.hit_where_infringed.Goals as goal

pub returns : goal.returns
returns c = hit_said c.searches_find_the_first.ensures.finds
