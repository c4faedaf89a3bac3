use Rattle.eb_eval.proofs.walks.+nearest.Given as goal

abbrev pub decreases-nearest : goal.decreases-nearest
decreases-nearest l = l.levels
