use Rattle.std.proofs.Common.{◌≡◌, ◌++◌, map}
use Rattle.eb_scene_text.specs.ProjectForm.{part_edit}
use Rattle.eb_scene_text.proofs.draft_edits.push_parts.Given as goal

-- the edits before, and those of what was passed
abbrev pub invariant-loop-draft : goal.invariant-loop-draft
invariant-loop-draft l = l.edits.items ≡ l.fn.edits.items ++ map (part_edit l.fn.scene l.fn.object) l.yielded
