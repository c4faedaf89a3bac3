use Rattle.std.proofs.Common.{◌≡◌, ◌++◌, drop}
use Rattle.eb_file.specs.Plain.{number_column}
use Rattle.eb_file.proofs.writing.put_column.Given as goal

abbrev pub invariant-loop-row : goal.invariant-loop-row
invariant-loop-row l = l.out.items ++ number_column (drop l.row-index l.rows) l.field ≡ l.fn.out.items ++ number_column l.rows l.field
