-- The ledger of the step counter is the one of the blank that it is made of.
use Rattle.program_tests.proofs.tests.outside.run_words.Given as goal

abbrev pub ghosts-top : goal.ghosts-top
ghosts-top a = record { name = a.blank.name; parts = a.blank.parts }
