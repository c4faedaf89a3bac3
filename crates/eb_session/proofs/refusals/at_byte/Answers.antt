use Rattle.std.proofs.Common.{◌∙◌, append_assoc}
use Rattle.eb_session.specs.Refusals.{at_byte}
use Rattle.eb_session.proofs.refusals.at_byte.Goals as goal

pub returns : goal.returns
unfolding at_byte
returns c = c.in_ok-text.ensures.ok ∙ simp append_assoc
