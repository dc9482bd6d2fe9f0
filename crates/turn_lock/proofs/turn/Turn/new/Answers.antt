use Rattle.std.proofs.Common.{rules, ap}
use Rattle.turn_lock.proofs.Ends.{opens}
use Rattle.turn_lock.proofs.turn.Turn.new.Goals as goal

pub new-requires : goal.new-requires
new-requires g c = opens _ _ _ c.args.value _ (search rules) c.requires (ap g.T.Logged.setting (search rules))
