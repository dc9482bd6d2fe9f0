-- the ledger is the blank's
use Rattle.cycle_tests.proofs.tests.hits.found_over.Given as goal

abbrev pub ghosts-counted : goal.ghosts-counted
ghosts-counted a = record { name = a.blank.name; parts = a.blank.parts }
