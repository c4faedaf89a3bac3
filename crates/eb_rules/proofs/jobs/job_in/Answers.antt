use Rattle.eb_rules.proofs.Accepted.{job_said, job_plan_is}
use Rattle.eb_rules.proofs.jobs.job_in.Goals as goal

pub kept-requires-clause-said : goal.kept-requires-clause-said
kept-requires-clause-said c = (c.args.text.now, job_said c.args.schema.now c.args.text.now c.in-Ok.placed.tree c.in-Ok.placed.places _ c.in-Ok.ensures (rw c.items.ensures at c.in-Ok-job_typed.ensures))

pub kept-requires-clause-plan : goal.kept-requires-clause-plan
kept-requires-clause-plan c = job_plan_is c.args.schema.now c.args.text.now c.in-Ok.placed.tree c.in-Ok.placed.places _ c.in-Ok.ensures (rw c.items.ensures at c.in-Ok-job_typed.ensures)
