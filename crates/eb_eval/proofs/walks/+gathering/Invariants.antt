use Rattle.std.proofs.Common.{◌≡◌, ◌+◌, ◌*◌, drop}
use Rattle.eb_scene.specs.Answers.{answer}
use Rattle.eb_meaning.specs.Asks.{run}
use Rattle.eb_eval.specs.Walks.{gathered, gathered_all}
use Rattle.eb_eval.proofs.walks.+gathering.Given as goal

abbrev pub decreases-gathered : goal.decreases-gathered
decreases-gathered l = 3 * l.levels

abbrev pub decreases-gathered_all : goal.decreases-gathered_all
decreases-gathered_all l = 3 * l.levels + 2

abbrev pub decreases-gathered_one : goal.decreases-gathered_one
decreases-gathered_one l = 3 * l.levels + 1

-- what is left does the rest
abbrev pub invariant-gathered_all-loop-object : goal.invariant-gathered_all-loop-object
invariant-gathered_all-loop-object l =
    run (answer l.project) (gathered_all l.sought (gathered l.sought l.levels) (drop l.object-index l.objects) l.have) l.noted ≡ run (answer l.project) (gathered_all l.sought (gathered l.sought l.levels) l.objects l.fn.have) l.fn.noted
