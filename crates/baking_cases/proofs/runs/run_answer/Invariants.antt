-- the steps are counted in the ledger of the blank
use Rattle.baking_cases.proofs.runs.run_answer.Given as goal

abbrev pub ghosts-counted : goal.ghosts-counted
ghosts-counted a = record { name = a.blank.name; parts = a.blank.parts }
