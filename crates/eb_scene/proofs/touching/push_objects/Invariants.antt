use Rattle.std.proofs.Common.{◌≡◌, ◌++◌, drop}
use Rattle.std.specs.Prelude.{flat_map}
use Rattle.eb_scene.specs.Touched.{object_keys}
use Rattle.eb_scene.proofs.touching.push_objects.Given as goal

-- the keys so far, and those of the other objects
abbrev pub invariant-loop-object : goal.invariant-loop-object
invariant-loop-object l = l.keys.items ++ flat_map (object_keys l.scene l.found) (drop l.object-index l.objects) ≡ l.fn.keys.items ++ flat_map (object_keys l.fn.scene l.fn.found) l.fn.objects
