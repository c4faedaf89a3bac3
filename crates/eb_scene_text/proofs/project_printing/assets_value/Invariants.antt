use Rattle.std.proofs.Common.{◌≡◌, ◌++◌, map, flat_map, drop}
use Rattle.serde_json.specs.View.{view}
use Rattle.std.specs.Map.{keys_of}
use Rattle.eb_scene_text.specs.ProjectText.{asset_found}
use Rattle.eb_scene_text.proofs.project_printing.assets_value.Given as goal

-- those so far, and those that are left
abbrev pub invariant-loop-number : goal.invariant-loop-number
invariant-loop-number l = map view l.list.items ++ flat_map (asset_found l.project) (drop l.number-index l.number-items) ≡ flat_map (asset_found l.project) (keys_of l.project.assets)
