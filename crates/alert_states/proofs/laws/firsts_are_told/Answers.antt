use Rattle.alert_states.proofs.Bounds.{firsts_are_told}
use Rattle.alert_states.proofs.laws.firsts_are_told.Goals as goal

pub returns : goal.returns
returns c = firsts_are_told
