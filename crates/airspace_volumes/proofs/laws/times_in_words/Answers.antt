use Rattle.airspace_volumes.proofs.Words.{times_said}
use Rattle.airspace_volumes.proofs.laws.times_in_words.Goals as goal

pub returns : goal.returns
returns c = times_said
