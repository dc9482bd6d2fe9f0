use Rattle.std.proofs.Common.{refl}
use Rattle.cat004_write.specs.Messages.{message}
use Rattle.cat004_write.proofs.laws.numbers.Goals as goal

pub returns-clause-messages : goal.returns-clause-messages
unfolding message
returns-clause-messages c = record {
  stca = refl;
  apm = refl;
  msaw = refl;
  apw = refl;
}
