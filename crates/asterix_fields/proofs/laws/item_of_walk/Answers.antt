use Rattle.asterix_fields.proofs.RecordLaws.{item_found}
use Rattle.asterix_fields.proofs.laws.item_of_walk.Goals as goal

pub returns : goal.returns
returns c = item_found
