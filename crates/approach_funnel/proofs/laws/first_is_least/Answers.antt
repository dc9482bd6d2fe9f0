use Rattle.approach_funnel.proofs.Words.{first_said}
use Rattle.approach_funnel.proofs.laws.first_is_least.Goals as goal

pub returns : goal.returns
returns c = λ m f set. first_said c.searches_find_the_first.ensures.finds m f set
