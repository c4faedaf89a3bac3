use Rattle.std.proofs.Common.{refl}
use Rattle.eb_eval.specs.Runs.{most_bakers}
use Rattle.eb_rerun.proofs.near.most_bakers.Goals as goal

pub returns : goal.returns
unfolding most_bakers
returns c = refl
