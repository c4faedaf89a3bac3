use Rattle.eb_rules.proofs.Accepted.{rules_say, rules_accept, rules_hold_read}
use Rattle.eb_rules.proofs.texts.Rules.read.Goals as goal

pub returns-clause-says : goal.returns-clause-says
returns-clause-says c = rules_say _ _ _ c.rules_in.ensures.told

pub returns-clause-accepts : goal.returns-clause-accepts
returns-clause-accepts c = rules_accept _ _ _ c.rules_in.ensures.told

pub returns-clause-holds : goal.returns-clause-holds
returns-clause-holds c = rules_hold_read _ _ _ c.rules_in.ensures.told
