-- the ledger is the blank's
use Rattle.track_tests.proofs.tests.steps.a_caller_makes_a_counter.Given as goal

abbrev pub ghosts-program : goal.ghosts-program
ghosts-program a = record { name = a.blank.name; parts = a.blank.parts }
