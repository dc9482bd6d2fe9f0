use Rattle.stca_fine.proofs.Hits.{hit_in_words}
use Rattle.stca_fine.proofs.laws.hit_where_a_filter_holds.Goals as goal

pub returns : goal.returns
returns c = λ a b set. hit_in_words c.searches_find_the_first.ensures.finds a b set
