use Rattle.std.proofs.Common.{◌≡◌, drop}
use Rattle.eb_scene.specs.Rebuilding.{all_edited}
use Rattle.eb_scene_text.specs.ProjectForm.{shown, made_by}
use Rattle.eb_scene_text.proofs.project_reading.edit_all.Given as goal

-- the edits that are left make of the project so far what all make of the first one
abbrev pub invariant-loop-edit : goal.invariant-loop-edit
invariant-loop-edit l = record {
  number : l.index ≡ shown l.edit-index;
  left : made_by (all_edited l.edit-index l.project (drop l.edit-index l.edits)) ≡ made_by (all_edited 0 l.fn.project l.edits);
}
