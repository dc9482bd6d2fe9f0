use Rattle.cycle_workers.proofs.Members.{hits_said}
use Rattle.cycle_workers.proofs.laws.hits_in_words.Goals as goal

pub returns : goal.returns
returns c = hits_said
