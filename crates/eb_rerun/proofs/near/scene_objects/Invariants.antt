use Rattle.std.proofs.Common.{◌≡◌, ◌++◌, drop, map}
use Rattle.eb_rerun.specs.Recorded.{scene_objects}
use Rattle.eb_rerun.proofs.near.scene_objects.Given as goal

-- those so far, and those that are left
abbrev pub invariant-loop-object : goal.invariant-loop-object
invariant-loop-object l = l.out ++ map (λ n. (l.scene, n)) (drop l.object-index l.object-items) ≡ scene_objects l.fn.project l.fn.scene
