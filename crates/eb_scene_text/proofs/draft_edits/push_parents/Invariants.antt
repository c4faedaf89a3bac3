use Rattle.std.proofs.Common.{◌≡◌, ◌++◌, flat_map, drop}
use Rattle.eb_scene_text.specs.ProjectForm.{parent_edits}
use Rattle.eb_scene_text.proofs.draft_edits.push_parents.Given as goal

-- the edits before, and those of what was passed
abbrev pub invariant-loop-draft : goal.invariant-loop-draft
invariant-loop-draft l = l.edits.items ++ flat_map (parent_edits l.scene) (drop l.draft-index l.objects) ≡ l.fn.edits.items ++ flat_map (parent_edits l.fn.scene) l.fn.objects
