use Rattle.tick_sets.proofs.Moving.{squared_length_is}
use Rattle.tick_sets.proofs.laws.squared_length_is_parabola.Goals as goal

pub returns : goal.returns
returns c = squared_length_is
