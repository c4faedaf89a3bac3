use Rattle.eb_eval.proofs.Touching.{kept}
use Rattle.eb_eval.proofs.laws.runs_not_made_anew_stay.Goals as goal

pub returns : goal.returns
returns c g h e rules id valid is there stays = kept g h e rules id valid is there stays
