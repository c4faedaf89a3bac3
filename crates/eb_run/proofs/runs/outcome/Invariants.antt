-- the counter of an opening is its own
use Rattle.eb_run.proofs.runs.outcome.Given as goal

abbrev pub ghosts-open_session : goal.ghosts-open_session
ghosts-open_session g a = record { name = a.blank.name; parts = a.blank.parts }
