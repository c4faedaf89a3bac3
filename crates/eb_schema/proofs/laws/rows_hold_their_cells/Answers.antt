use Rattle.eb_schema.proofs.RowLaws.{found_with, any_type}
use Rattle.eb_schema.proofs.laws.rows_hold_their_cells.Goals as goal

pub returns-clause-put : goal.returns-clause-put
returns-clause-put c row cell k = found_with (λ c. c.kind) cell k row

pub returns-clause-types : goal.returns-clause-types
returns-clause-types c row k = any_type (λ c. c.kind) row k
