use Rattle.std.proofs.Common.{◌≡◌, ◌++◌, map, flat_map, drop}
use Rattle.serde_json.specs.View.{view}
use Rattle.eb_scene_text.specs.ProjectText.{scene_found}
use Rattle.eb_scene_text.proofs.project_printing.scenes_value.Given as goal

-- those so far, and those that are left
abbrev pub invariant-loop-scene : goal.invariant-loop-scene
invariant-loop-scene l = map view l.list.items ++ flat_map (scene_found l.project) (drop l.scene-index l.scenes) ≡ flat_map (scene_found l.project) l.scenes
