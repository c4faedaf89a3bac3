use Rattle.eb_rules.proofs.Accepted.{job_hold_kept}
use Rattle.eb_rules.proofs.jobs.Job.resolved.Goals as goal

pub returns-clause-plan : goal.returns-clause-plan
returns-clause-plan c = rw (← c.self.view_is) c.self.invariant.1

pub returns-clause-holds : goal.returns-clause-holds
returns-clause-holds c = job_hold_kept _ _ _ c.self.invariant.0 c.self.invariant.1
