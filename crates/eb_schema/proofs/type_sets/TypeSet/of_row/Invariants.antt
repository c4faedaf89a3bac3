use Rattle.std.proofs.Common.{◌≡◌, take}
use Rattle.eb_schema.specs.Rows.{kinds_of}
use Rattle.eb_schema.proofs.type_sets.TypeSet.of_row.Given as goal

abbrev pub invariant-loop-cell : goal.invariant-loop-cell
invariant-loop-cell l = l.kinds ≡ kinds_of (take l.cell-index l.cell-items)
