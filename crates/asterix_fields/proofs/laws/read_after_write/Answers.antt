use Rattle.asterix_fields.proofs.Octets.{read_again}
use Rattle.asterix_fields.proofs.laws.read_after_write.Goals as goal

pub returns : goal.returns
returns c = read_again
