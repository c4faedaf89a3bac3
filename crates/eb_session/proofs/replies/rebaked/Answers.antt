use Rattle.std.proofs.Common.{◌∙◌, append_assoc}
use Rattle.eb_session.specs.Replies.{rebaked_text}
use Rattle.eb_session.proofs.replies.rebaked.Goals as goal

pub returns : goal.returns
unfolding rebaked_text
returns c = c.reply_of.ensures ∙ c.in_ok-format.ensures.ok ∙ simp append_assoc
