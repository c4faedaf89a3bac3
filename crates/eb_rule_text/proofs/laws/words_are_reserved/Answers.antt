use Rattle.eb_rule_text.proofs.Reserved.{reserved_is}
use Rattle.eb_rule_text.proofs.laws.words_are_reserved.Goals as goal

pub returns : goal.returns
returns c = reserved_is
