use Rattle.asterix_fields.proofs.RecordLaws.{one_spelling}
use Rattle.asterix_fields.proofs.laws.one_spelling.Goals as goal

pub returns : goal.returns
returns c = one_spelling
