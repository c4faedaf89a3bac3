use Rattle.std.proofs.Common.{◌≡◌, drop}
use Rattle.eb_scene.specs.Answers.{answer}
use Rattle.eb_meaning.specs.Asks.{run}
use Rattle.eb_eval.specs.Copying.{copied_all}
use Rattle.eb_eval.proofs.copying.copied_all.Given as goal

-- what is left does the rest
abbrev pub invariant-loop-value : goal.invariant-loop-value
invariant-loop-value l = run (answer l.project) (copied_all l.scene (drop l.value-index l.values) l.have) l.noted ≡ run (answer l.project) (copied_all l.scene l.values l.fn.have) l.fn.noted
