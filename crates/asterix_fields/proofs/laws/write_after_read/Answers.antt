use Rattle.asterix_fields.proofs.Octets.{write_again}
use Rattle.asterix_fields.proofs.laws.write_after_read.Goals as goal

pub returns : goal.returns
returns c = write_again
