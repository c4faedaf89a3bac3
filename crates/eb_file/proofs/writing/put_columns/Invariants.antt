use Rattle.std.proofs.Common.{◌≡◌, ◌-◌, ◌++◌}
use Rattle.eb_file.specs.Plain.{number_columns}
use Rattle.eb_file.proofs.writing.put_columns.Given as goal

abbrev pub invariant-loop-field : goal.invariant-loop-field
invariant-loop-field l = l.out.items ++ number_columns l.rows l.field (l.fields - l.field) ≡ l.fn.out.items ++ number_columns l.rows 0 l.fields
