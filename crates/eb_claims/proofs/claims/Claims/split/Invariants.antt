use Rattle.eb_claims.proofs.claims.Claims.split.Given as goal

-- the part that the new seat stands for
abbrev pub ghosts-split_by : goal.ghosts-split_by
ghosts-split_by a = record { part = a.part }
