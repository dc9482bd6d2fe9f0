use Rattle.alert_states.proofs.Bounds.{events_in_order}
use Rattle.alert_states.proofs.laws.events_in_order.Goals as goal

pub returns : goal.returns
returns c = events_in_order
