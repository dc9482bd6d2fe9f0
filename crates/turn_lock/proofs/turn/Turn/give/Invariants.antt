use Rattle.std.proofs.Common.{Some}
use Rattle.turn_lock.proofs.turn.Turn.give.Given as goal

abbrev pub ghosts-give_as : goal.ghosts-give_as
ghosts-give_as g a = record { entry = Some a.entry.now }
