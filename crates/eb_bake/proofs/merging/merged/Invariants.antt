use Rattle.std.proofs.Common.{◌≡◌}
use Rattle.std.specs.List.{fold, flat_map}
use Rattle.eb_merge.specs.Objects.{nothing_merged}
use Rattle.eb_rerun.specs.Recorded.{scene_objects}
use Rattle.eb_bake.specs.Baking.{with_object_of}
use Rattle.eb_bake.proofs.merging.merged.Given as goal

-- the objects of the scenes so far
abbrev pub invariant-loop-scene : goal.invariant-loop-scene
invariant-loop-scene l = l.merged ≡ fold (with_object_of l.fn.rules l.fn.project) nothing_merged (flat_map (scene_objects l.fn.project) l.yielded)
