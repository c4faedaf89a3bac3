use Rattle.eb_scene.proofs.ValidEdits.{valid_ascends, valid_edited}
use Rattle.eb_scene.proofs.project_laws.projects_stay_valid.Goals as goal

pub returns-clause-ascending : goal.returns-clause-ascending
returns-clause-ascending c = valid_ascends

pub returns-clause-edited : goal.returns-clause-edited
returns-clause-edited c = valid_edited
