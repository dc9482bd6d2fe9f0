use Rattle.asterix_fields.proofs.FaultAgain.{one_fault}
use Rattle.asterix_fields.proofs.laws.one_fault.Goals as goal

pub returns : goal.returns
returns c = one_fault
