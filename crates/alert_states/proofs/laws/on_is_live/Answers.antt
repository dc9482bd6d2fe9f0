use Rattle.alert_states.proofs.Marks.{on_is_live}
use Rattle.alert_states.proofs.laws.on_is_live.Goals as goal

pub returns : goal.returns
returns c = on_is_live
