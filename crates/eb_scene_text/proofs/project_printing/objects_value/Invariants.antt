use Rattle.std.proofs.Common.{◌≡◌, ◌++◌, map, flat_map, drop}
use Rattle.serde_json.specs.View.{view}
use Rattle.std.specs.Map.{keys_of}
use Rattle.eb_scene.specs.Projects.{objects_of}
use Rattle.eb_scene_text.specs.ProjectText.{object_found}
use Rattle.eb_scene_text.proofs.project_printing.objects_value.Given as goal

-- those so far, and those that are left
abbrev pub invariant-loop-number : goal.invariant-loop-number
invariant-loop-number l = map view l.list.items ++ flat_map (object_found l.project.schema (objects_of l.project l.scene)) (drop l.number-index l.number-items) ≡ flat_map (object_found l.project.schema (objects_of l.project l.scene)) (keys_of (objects_of l.project l.scene))
