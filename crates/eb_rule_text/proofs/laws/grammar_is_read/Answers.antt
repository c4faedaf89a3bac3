use Rattle.eb_rule_text.proofs.CompleteTexts.{rules_is, job_is}
use Rattle.eb_rule_text.proofs.laws.grammar_is_read.Goals as goal

pub returns-clause-rules : goal.returns-clause-rules
returns-clause-rules c = rules_is

pub returns-clause-job : goal.returns-clause-job
returns-clause-job c i x is = job_is is
