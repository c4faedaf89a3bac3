use Rattle.std.proofs.Common.{◌≡◌, ◌++◌, map, drop}
use Rattle.eb_scene_text.specs.ProjectForm.{object_edit}
use Rattle.eb_scene_text.proofs.draft_edits.push_objects.Given as goal

-- the edits before, and those of what was passed
abbrev pub invariant-loop-draft : goal.invariant-loop-draft
invariant-loop-draft l = l.edits.items ++ map (object_edit l.scene) (drop l.draft-index l.objects) ≡ l.fn.edits.items ++ map (object_edit l.fn.scene) l.fn.objects
