use Rattle.eb_rule_text.proofs.ReadsBack.{rules_again, job_again}
use Rattle.eb_rule_text.proofs.laws.printed_reads_back.Goals as goal

pub returns-clause-rules : goal.returns-clause-rules
returns-clause-rules c = rules_again

pub returns-clause-job : goal.returns-clause-job
returns-clause-job c = job_again
