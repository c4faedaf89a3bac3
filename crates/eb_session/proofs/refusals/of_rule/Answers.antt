use Rattle.std.proofs.Common.{◌∙◌, append_assoc}
use Rattle.eb_session.specs.Refusals.{rule_refusal}
use Rattle.eb_session.proofs.refusals.of_rule.Goals as goal

pub returns : goal.returns
unfolding rule_refusal
returns c = c.in_ok-text.ensures.ok ∙ simp append_assoc
