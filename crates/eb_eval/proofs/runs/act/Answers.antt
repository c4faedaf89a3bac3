use Rattle.std.proofs.Common.{rules}
use Rattle.eb_eval.proofs.RunFacts.{run_copies}
use Rattle.eb_eval.proofs.runs.act.Goals as goal

pub returns-then-id-eq0 : goal.returns-then-id-eq0
returns-then-id-eq0 c = rw (run_copies c.args.rules.now c.args.id c.if-id-eq0.true) (search rules)
