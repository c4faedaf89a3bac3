use Rattle.std.proofs.Common.{ap}
use Rattle.eb_rules.proofs.Accepted.{printed_says, typed_kept}
use Rattle.eb_rules.proofs.texts.rules_text.Goals as goal

pub returns-clause-again : goal.returns-clause-again
returns-clause-again c = printed_says _ _ _ c.rules.invariant.0 (ap (λ k. k.tree) c.rules.view_is) c.in_ok-text.ensures

pub returns-clause-same : goal.returns-clause-same
returns-clause-same c = returns-clause-again c _ (typed_kept c.rules.view_is c.rules.invariant.0.1.typed)
