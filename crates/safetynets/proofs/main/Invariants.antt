-- The ledger of the step counter is the one of the blank that it is made of.
use Rattle.safetynets.proofs.main.Given as goal

abbrev pub ghosts-program : goal.ghosts-program
ghosts-program a = record { name = a.blank.name; parts = a.blank.parts }
