use Rattle.track_table.proofs.Proper.{proper}
use Rattle.track_table.proofs.laws.tables_are_proper.Goals as goal

pub returns : goal.returns
returns c = proper
