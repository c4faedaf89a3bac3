use Rattle.eb_scene.proofs.SameKeys.{told_apart}
use Rattle.eb_scene.proofs.laws.keys_are_told_apart.Goals as goal

pub returns : goal.returns
returns c j k = told_apart j k
