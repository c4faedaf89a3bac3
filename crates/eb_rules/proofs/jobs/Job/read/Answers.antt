use Rattle.eb_rules.proofs.Accepted.{job_say, job_accepts, job_hold_read}
use Rattle.eb_rules.proofs.jobs.Job.read.Goals as goal

pub returns-clause-says : goal.returns-clause-says
returns-clause-says c = job_say _ _ _ c.job_in.ensures.told

pub returns-clause-accepts : goal.returns-clause-accepts
returns-clause-accepts c = job_accepts _ _ _ c.job_in.ensures.told

pub returns-clause-holds : goal.returns-clause-holds
returns-clause-holds c = job_hold_read _ _ _ c.job_in.ensures.told
