use Rattle.std.proofs.Common.{◌≡◌, drop, fold}
use Rattle.eb_eval.specs.Sums.{better}
use Rattle.eb_eval.proofs.sums.best_from.Given as goal

-- the best so far, and the numbers that are left
abbrev pub invariant-loop-number : goal.invariant-loop-number
invariant-loop-number l = fold (better l.extreme) l.best (drop l.number-index l.others) ≡ fold (better l.extreme) l.fn.first l.others
