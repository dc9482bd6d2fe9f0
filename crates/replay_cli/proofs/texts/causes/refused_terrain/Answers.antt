use Rattle.replay_cli.proofs.Under.{terrain_fault_is}
use Rattle.replay_cli.proofs.texts.causes.refused_terrain.Goals as goal

pub returns-in_default : goal.returns-in_default
returns-in_default c = terrain_fault_is c.args.fault c.in_default.not-NoMemory
