use Rattle.eb_meaning.proofs.Alike.{end_alike}
use Rattle.eb_meaning.proofs.laws.alike_answers_end_alike.Goals as goal

pub returns : goal.returns
returns c g o p m = end_alike g o p m
