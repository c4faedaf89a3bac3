use Rattle.std.proofs.Common.{◌≡◌, ◌++◌, drop}
use Rattle.std.specs.List.{flat_map}
use Rattle.eb_eval.specs.Runs.{object_runs, scene_runs}
use Rattle.eb_rerun.proofs.evaluating.put_scene_runs.Given as goal

-- those so far, and those of the objects that are left
abbrev pub invariant-loop-object : goal.invariant-loop-object
invariant-loop-object l = l.out ++ flat_map (object_runs l.rules l.project l.scene) (drop l.object-index l.object-items) ≡ l.fn.out ++ scene_runs l.fn.rules l.fn.project l.fn.scene
