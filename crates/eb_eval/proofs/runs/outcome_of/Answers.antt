use Rattle.std.proofs.Common.{◌∙◌, ap}
use Rattle.eb_eval.specs.declared.outcomes.Outcome.TheVariants.{Made}
use Rattle.eb_eval.proofs.RunFacts.{run_ended, run_faulted}
use Rattle.eb_eval.proofs.runs.outcome_of.Goals as goal

pub returns-in_ok-outputs-in-Ok-clause-outcome : goal.returns-in_ok-outputs-in-Ok-clause-outcome
returns-in_ok-outputs-in-Ok-clause-outcome c =
    ap Made c.in_ok-outputs-in-Ok.ensures ∙ (run_ended c.args.project.now c.args.rules.now c.args.id c.args.noted.now _ _ c.requires c.in-Ok.ensures).0

pub returns-in_ok-outputs-in-Ok-clause-noted : goal.returns-in_ok-outputs-in-Ok-clause-noted
returns-in_ok-outputs-in-Ok-clause-noted c = (run_ended c.args.project.now c.args.rules.now c.args.id c.args.noted.now _ _ c.requires c.in-Ok.ensures).1

pub returns-in_ok-fault_of-in-Err-clause-outcome : goal.returns-in_ok-fault_of-in-Err-clause-outcome
returns-in_ok-fault_of-in-Err-clause-outcome c =
    (run_faulted (Unit {0}) c.args.project.now c.args.rules.now c.args.id c.args.noted.now _ c.act.new.scope _ _ c.requires c.in-Err.ensures c.in_ok-fault_of-in-Err.ensures).0

pub returns-in_ok-fault_of-in-Err-clause-noted : goal.returns-in_ok-fault_of-in-Err-clause-noted
returns-in_ok-fault_of-in-Err-clause-noted c =
    (run_faulted (Unit {0}) c.args.project.now c.args.rules.now c.args.id c.args.noted.now _ c.act.new.scope _ _ c.requires c.in-Err.ensures c.in_ok-fault_of-in-Err.ensures).1
