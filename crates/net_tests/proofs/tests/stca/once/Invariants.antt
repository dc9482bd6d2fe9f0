-- the ledger is the blank's
use Rattle.net_tests.proofs.tests.stca.once.Given as goal

abbrev pub ghosts-counted : goal.ghosts-counted
ghosts-counted a = record { name = a.blank.name; parts = a.blank.parts }
