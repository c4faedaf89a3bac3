use Rattle.eb_file.proofs.Apart.{no_longer_spelling}
use Rattle.eb_file.proofs.laws.spellings_end.Goals as goal

pub returns : goal.returns
returns c = no_longer_spelling
