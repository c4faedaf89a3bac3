-- the counter's ledger is that of the blank
use Rattle.ground_tests.proofs.base.a_caller_that_counts_nothing.Given as goal

abbrev pub ghosts-counted : goal.ghosts-counted
ghosts-counted g a = record { name = a.blank.name; parts = a.blank.parts }
