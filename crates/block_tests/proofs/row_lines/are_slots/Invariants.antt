use Rattle.std.proofs.Common.{ℕ, ◌<◌, slice_index_or}
use Rattle.eb_schema.specs.Layouts.{column_at}
use Rattle.eb_schema.specs.Slots.{Fits}
use Rattle.eb_chunk.specs.Rows.{no_slot}
use Rattle.block_tests.proofs.row_lines.are_slots.Given as goal

-- those before this column fit
abbrev pub invariant-loop-column : goal.invariant-loop-column
invariant-loop-column l = (c : ℕ) → c < l.column → Fits (column_at l.layout c).holds (slice_index_or l.slots c no_slot)
