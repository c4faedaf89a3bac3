use Rattle.std.proofs.Common.{◌≡◌, slice_set}
use Rattle.eb_chunk.specs.Rows.{table, row_of, row_in}
use Rattle.eb_chunk.proofs.RowFacts.{mixed}
use Rattle.eb_chunk.proofs.rows.copy_row.Given as goal

-- the values so far, and behind them the old ones
abbrev pub invariant-loop-column : goal.invariant-loop-column
invariant-loop-column l =
    let row = row_in (table l.layout l.fn.block) l.from in
    table l.layout l.block ≡ slice_set (table l.layout l.fn.block) l.row (row_of row.entity row.name (mixed l.column row.slots (row_in (table l.layout l.fn.block) l.row).slots))
