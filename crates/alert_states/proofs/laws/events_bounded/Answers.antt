use Rattle.alert_states.proofs.Bounds.{events_bounded}
use Rattle.alert_states.proofs.laws.events_bounded.Goals as goal

pub returns : goal.returns
returns c = events_bounded
