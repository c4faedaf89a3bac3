use Rattle.eb_scene.proofs.TouchedEdits.{spares_all}
use Rattle.eb_scene.proofs.laws.edits_touch_what_they_change.Goals as goal

pub returns : goal.returns
returns c g h e k order is scene object free = spares_all g h e k order is scene object free
