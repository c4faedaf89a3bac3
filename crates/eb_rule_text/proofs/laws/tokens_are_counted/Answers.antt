use Rattle.eb_rule_text.proofs.Counted.{read_spans, find_spans, target_spans}
use Rattle.eb_rule_text.proofs.laws.tokens_are_counted.Goals as goal

pub returns-clause-reads : goal.returns-clause-reads
returns-clause-reads c = read_spans

pub returns-clause-finds : goal.returns-clause-finds
returns-clause-finds c = find_spans

pub returns-clause-targets : goal.returns-clause-targets
returns-clause-targets c = target_spans
