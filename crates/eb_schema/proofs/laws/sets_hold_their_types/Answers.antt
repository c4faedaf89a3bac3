use Rattle.eb_schema.proofs.SetFacts.{ascends_set}
use Rattle.eb_schema.proofs.RowLaws.{any_of_set}
use Rattle.eb_schema.proofs.laws.sets_hold_their_types.Goals as goal

pub returns-clause-order : goal.returns-clause-order
returns-clause-order c kinds = ascends_set kinds

pub returns-clause-types : goal.returns-clause-types
returns-clause-types c kinds kind = any_of_set kinds kind
