use Rattle.eb_scene.specs.Validity.{IsEdit}
use Rattle.eb_scene_text.proofs.DraftFacts.{all_at}
use Rattle.eb_scene_text.proofs.project_reading.edit_all.Goals as goal

pub edit-requires : goal.edit-requires
edit-requires c = all_at IsEdit c.args.edits.now c.loop-edit.edit-index _ c.requires c.loop-edit-test.true c.edit-item.is
