-- the rest of a text behind the point
use Rattle.eb_base.proofs.NameTexts.{part_found}
use Rattle.eb_base.proofs.names.first_part_read.Goals as goal

pub returns : goal.returns
returns c = part_found c.args.text.now c.in_ok-at.at c.in_ok-number.number c.in_ok-at.ensures.place c.in_ok-number.ensures
