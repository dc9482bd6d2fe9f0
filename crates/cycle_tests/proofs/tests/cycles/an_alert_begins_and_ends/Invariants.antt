-- the ledger is the blank's
use Rattle.cycle_tests.proofs.tests.cycles.an_alert_begins_and_ends.Given as goal

abbrev pub ghosts-expect_cycles : goal.ghosts-expect_cycles
ghosts-expect_cycles g a = record { name = a.blank.name; parts = a.blank.parts }
