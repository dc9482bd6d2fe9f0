use Rattle.site_types.specs.declared.net.Net.TheVariants.{Stca}
use Rattle.cycle_workers.specs.Eligible.{movers}
use Rattle.cycle_workers.proofs.Members.{pairs_said}
use Rattle.cycle_workers.proofs.laws.pairs_in_words.Goals as goal

pub returns : goal.returns
returns c = λ site frozen. pairs_said (movers site Stca frozen)
