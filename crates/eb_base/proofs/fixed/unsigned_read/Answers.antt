use Rattle.std.proofs.Common.{◌∙◌}
use Rattle.eb_base.proofs.FixedReads.{point_found}
use Rattle.eb_base.proofs.fixed.unsigned_read.Goals as goal

pub returns-in-Some : goal.returns-in-Some
returns-in-Some c = c.pointed_read.ensures ∙ point_found c.args.negative c.args.text.now c.in-Some.at c.in-Some.ensures.place
