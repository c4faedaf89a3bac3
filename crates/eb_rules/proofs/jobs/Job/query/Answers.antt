use Rattle.eb_rules.proofs.HoldTexts.{query_of}
use Rattle.eb_rules.proofs.jobs.Job.query.Goals as goal

pub returns : goal.returns
returns c = rw (← c.self.view_is) (query_of _ _ _ c.self.invariant.1)
