use Rattle.replay_cli.proofs.Told.{tells}
use Rattle.replay_cli.proofs.texts.tell.Goals as goal

pub returns : goal.returns
returns g c = tells _ _ _ _ _ c.tell_fault.result c.tell_fault.ensures.bytes c.tell_fault.ensures.cause
