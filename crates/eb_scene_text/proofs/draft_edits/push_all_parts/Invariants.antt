use Rattle.std.proofs.Common.{◌≡◌, ◌++◌, flat_map}
use Rattle.eb_scene_text.specs.ProjectForm.{part_edits}
use Rattle.eb_scene_text.proofs.draft_edits.push_all_parts.Given as goal

-- the edits before, and those of what was passed
abbrev pub invariant-loop-draft : goal.invariant-loop-draft
invariant-loop-draft l = l.edits.items ≡ l.fn.edits.items ++ flat_map (part_edits l.fn.scene) l.yielded
