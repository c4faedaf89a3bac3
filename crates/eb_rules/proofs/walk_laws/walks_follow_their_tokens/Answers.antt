use Rattle.eb_rules.proofs.Accepted.{plan_follows}
use Rattle.eb_rules.proofs.FollowExprs.{expr_follows}
use Rattle.eb_rules.proofs.FollowJobs.{job_follows}
use Rattle.eb_rules.proofs.walk_laws.walks_follow_their_tokens.Goals as goal

pub returns-clause-expr : goal.returns-clause-expr
returns-clause-expr c w n d i j x p is = expr_follows w is p

pub returns-clause-rules : goal.returns-clause-rules
returns-clause-rules c types tree i p is = plan_follows types tree is p

pub returns-clause-job : goal.returns-clause-job
returns-clause-job c types tree i p is = job_follows types is p
