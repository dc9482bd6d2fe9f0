use Rattle.replay_cli.proofs.Under.{site_fault_is}
use Rattle.replay_cli.proofs.texts.causes.refused.Goals as goal

pub returns-in_default : goal.returns-in_default
returns-in_default c = site_fault_is c.args.fault c.in_default.not-NoMemory
