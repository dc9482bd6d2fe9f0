use Rattle.alert_states.proofs.Carried.{events_carry_hits}
use Rattle.alert_states.proofs.laws.events_carry_hits.Goals as goal

pub returns : goal.returns
returns c = events_carry_hits
