use Rattle.eb_file.proofs.OneSpelling.{one_spelling_lem}
use Rattle.eb_file.proofs.laws.one_spelling.Goals as goal

pub returns : goal.returns
returns c = one_spelling_lem
