use Rattle.eb_eval.proofs.RunsAlike.{bake_alike}
use Rattle.eb_eval.proofs.laws.alike_answers_bake_alike.Goals as goal

pub returns : goal.returns
returns c g h rules id a = bake_alike g h rules id a
