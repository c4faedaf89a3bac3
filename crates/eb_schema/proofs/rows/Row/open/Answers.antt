use Rattle.eb_schema.proofs.RowFacts.{no_cells}
use Rattle.eb_schema.proofs.rows.Row.open.Goals as goal

pub invariant_of-result : goal.invariant_of-result
invariant_of-result c = rw c.new.ensures no_cells
