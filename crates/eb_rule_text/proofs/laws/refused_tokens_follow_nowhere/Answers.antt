use Rattle.eb_rule_text.proofs.Refused.{no_rules_go_on, no_job_goes_on}
use Rattle.eb_rule_text.proofs.laws.refused_tokens_follow_nowhere.Goals as goal

pub returns-clause-rules : goal.returns-clause-rules
returns-clause-rules c = no_rules_go_on

pub returns-clause-job : goal.returns-clause-job
returns-clause-job c = no_job_goes_on
