use Rattle.std.proofs.Common.{◌≡◌, drop}
use Rattle.eb_scene.specs.Answers.{answer}
use Rattle.eb_meaning.specs.Asks.{run}
use Rattle.eb_eval.specs.Copying.{copied_types}
use Rattle.eb_eval.proofs.copying.copied_types.Given as goal

-- what is left does the rest
abbrev pub invariant-loop-authoring : goal.invariant-loop-authoring
invariant-loop-authoring l = run (answer l.project) (copied_types l.id (drop l.authoring-index l.types) l.cells) l.noted ≡ run (answer l.project) (copied_types l.id l.types l.fn.cells) l.fn.noted
