use Rattle.eb_scene_text.proofs.ReadFacts.{of_read}
use Rattle.eb_scene_text.proofs.DraftFacts.{IsDraft, draft_fits, edits_fit}
use Rattle.eb_scene_text.proofs.project_reading.project_read.Goals as goal

pub edit_all-requires : goal.edit_all-requires
edit_all-requires c =
    rw (c.deref.ensures.value, c.in_ok-edits.ensures) (edits_fit c.in_ok-draft.draft (of_read _ IsDraft (draft_fits _ _) c.in_ok-draft.draft c.in_ok-draft.ensures))
