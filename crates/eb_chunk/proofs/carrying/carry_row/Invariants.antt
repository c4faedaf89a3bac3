use Rattle.std.proofs.Common.{◌≡◌, ◌≤◌, ◌<◌, length, slice_set}
use Rattle.eb_schema.specs.Layouts.{column_at}
use Rattle.eb_chunk.specs.Merging.{place_of}
use Rattle.eb_chunk.specs.Rows.{table, row_of, row_in, carried}
use Rattle.eb_chunk.proofs.RowFacts.{mixed}
use Rattle.eb_chunk.proofs.carrying.carry_row.Given as goal

-- the values so far, and behind them the old ones; and the field of this column stands no earlier than the walk is
abbrev pub invariant-loop-column : goal.invariant-loop-column
invariant-loop-column l =
    let row = carried l.layout l.from_layout (row_in (table l.from_layout l.other) l.from) in
    (table l.layout l.block ≡ slice_set (table l.layout l.fn.block) l.row (row_of row.entity row.name (mixed l.column row.slots (row_in (table l.layout l.fn.block) l.row).slots)))
    × (l.column < length l.layout → l.at ≤ place_of (column_at l.layout l.column).kind (column_at l.layout l.column).field l.from_layout)
