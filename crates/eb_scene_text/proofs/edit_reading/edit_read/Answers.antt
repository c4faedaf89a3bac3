use Rattle.eb_scene.specs.Validity.{IsEdit}
use Rattle.eb_scene_text.proofs.ReadFacts.{of_read}
use Rattle.eb_scene_text.proofs.EditFacts.{members_fit}
use Rattle.eb_scene_text.proofs.edit_reading.edit_read.Goals as goal

pub returns-clause-valid : goal.returns-clause-valid
returns-clause-valid c = of_read _ IsEdit (members_fit _ _ _) _ c.in_ok-edit.ensures
