use Rattle.eb_scene.proofs.RebuildProjects.{rebuilt}
use Rattle.eb_scene.proofs.project_laws.projects_are_rebuilt.Goals as goal

pub returns : goal.returns
returns c = rebuilt
