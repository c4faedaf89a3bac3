use Rattle.eb_scene_text.proofs.DocumentForms.{project_read_back}
use Rattle.eb_scene_text.proofs.laws.documents_are_read_back.Goals as goal

pub returns : goal.returns
returns c = project_read_back
