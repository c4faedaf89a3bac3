use Rattle.eb_rules.proofs.Accepted.{rules_hold_kept}
use Rattle.eb_rules.proofs.texts.Rules.resolved.Goals as goal

pub returns-clause-plan : goal.returns-clause-plan
returns-clause-plan c = rw (← c.self.view_is) c.self.invariant.1.0

pub returns-clause-holds : goal.returns-clause-holds
returns-clause-holds c = rules_hold_kept _ _ _ c.self.invariant.0 c.self.invariant.1.0
