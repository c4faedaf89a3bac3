use Rattle.eb_scene.proofs.Ascending.{empty_ascends, edited_ascends}
use Rattle.eb_scene.proofs.laws.lists_ascend.Goals as goal

pub returns-clause-empty : goal.returns-clause-empty
returns-clause-empty c types = empty_ascends types

pub returns-clause-edited : goal.returns-clause-edited
returns-clause-edited c g h e order is = edited_ascends g h e order is
