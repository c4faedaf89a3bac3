use Rattle.std.proofs.Common.{rules}
use Rattle.eb_rule_text.specs.Input.{same_mark}
use Rattle.eb_rule_text.proofs.cursor.same_mark.Goals as goal

pub returns : goal.returns
unfolding same_mark
returns c = search rules
