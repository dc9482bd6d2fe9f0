use Rattle.stca_fine.proofs.Hits.{first_in_words}
use Rattle.stca_fine.proofs.laws.first_is_least.Goals as goal

pub returns : goal.returns
returns c = λ a b set. first_in_words c.searches_find_the_first.ensures.finds a b set
