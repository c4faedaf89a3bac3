use Rattle.std.proofs.Common.{◌≡◌, drop}
use Rattle.serde_json.specs.Data.{no_members}
use Rattle.serde_json.specs.View.{members_view}
use Rattle.eb_scene_text.specs.ProjectText.{with_fields}
use Rattle.eb_scene_text.proofs.value_printing.fields_map.Given as goal

-- what was put, and then the fields and values that are left
abbrev pub invariant-loop-field : goal.invariant-loop-field
invariant-loop-field l = with_fields (members_view l.map.entries) (drop l.field-index l.fields) l.rest ≡ with_fields no_members l.fields l.values
