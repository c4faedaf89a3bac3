use Rattle.std.proofs.Common.{◌≡◌, drop, map}
use Rattle.std.specs.List.{fold}
use Rattle.eb_rerun.specs.Recorded.{scene_objects}
use Rattle.eb_bake.specs.Baking.{with_object_of}
use Rattle.eb_bake.proofs.merging.add_scene.Given as goal

-- the objects that are left do the rest
abbrev pub invariant-loop-object : goal.invariant-loop-object
invariant-loop-object l =
    fold (with_object_of l.rules l.project) l.merged (map (λ n. (l.scene, n)) (drop l.object-index l.object-items))
    ≡ fold (with_object_of l.fn.rules l.fn.project) l.fn.merged (scene_objects l.fn.project l.fn.scene)
