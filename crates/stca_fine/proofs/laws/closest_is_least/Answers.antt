use Rattle.stca_fine.proofs.Hits.{closest_in_words}
use Rattle.stca_fine.proofs.laws.closest_is_least.Goals as goal

pub returns : goal.returns
returns c = λ a b set. closest_in_words a b set
