use Rattle.eb_file.proofs.OneSpelling.{has_spelling_lem}
use Rattle.eb_file.proofs.laws.has_spelling.Goals as goal

pub returns : goal.returns
returns c = has_spelling_lem
