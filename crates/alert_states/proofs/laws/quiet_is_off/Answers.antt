use Rattle.alert_states.proofs.Bounds.{quiet_is_off}
use Rattle.alert_states.proofs.laws.quiet_is_off.Goals as goal

pub returns : goal.returns
returns c = quiet_is_off
