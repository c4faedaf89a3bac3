use Rattle.eb_eval.proofs.Touching.{spared}
use Rattle.eb_eval.proofs.laws.what_is_read_and_changes_is_touched.Goals as goal

pub returns : goal.returns
returns c g h e rules id k valid is here there read free = spared g h e rules id k valid is here there read free
