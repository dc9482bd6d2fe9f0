-- the ledger is the blank's
use Rattle.cycle_tests.proofs.tests.cycles.no_pair.Given as goal

abbrev pub ghosts-expect_cycles : goal.ghosts-expect_cycles
ghosts-expect_cycles g a = record { name = a.blank.name; parts = a.blank.parts }
