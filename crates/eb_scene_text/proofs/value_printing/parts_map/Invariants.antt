use Rattle.std.proofs.Common.{◌≡◌, drop}
use Rattle.serde_json.specs.Data.{no_members}
use Rattle.serde_json.specs.View.{members_view}
use Rattle.eb_scene_text.specs.ProjectText.{with_parts}
use Rattle.eb_scene_text.proofs.value_printing.parts_map.Given as goal

-- what was put, and then the components that are left
abbrev pub invariant-loop-part : goal.invariant-loop-part
invariant-loop-part l = with_parts l.schema (members_view l.map.entries) (drop l.part-index l.parts) ≡ with_parts l.schema no_members l.parts
