use Rattle.approach_funnel.proofs.Words.{hit_said}
use Rattle.approach_funnel.proofs.laws.hit_where_deviating.Goals as goal

pub returns : goal.returns
returns c = λ m f set. hit_said c.searches_find_the_first.ensures.finds m f set
