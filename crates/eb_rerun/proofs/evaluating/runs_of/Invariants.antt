use Rattle.std.proofs.Common.{◌≡◌}
use Rattle.std.specs.List.{flat_map}
use Rattle.eb_eval.specs.Runs.{scene_runs}
use Rattle.eb_rerun.proofs.evaluating.runs_of.Given as goal

-- those of the scenes so far
abbrev pub invariant-loop-scene : goal.invariant-loop-scene
invariant-loop-scene l = l.out ≡ flat_map (scene_runs l.fn.rules l.fn.project) l.yielded
