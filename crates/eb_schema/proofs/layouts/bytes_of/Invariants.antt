use Rattle.std.proofs.Common.{◌≡◌, ◌≤◌, ◌+◌, ◌*◌, map, drop}
use Rattle.eb_schema.specs.Slots.{width}
use Rattle.eb_schema.specs.Layouts.{total, row_bytes}
use Rattle.eb_schema.proofs.layouts.bytes_of.Given as goal

-- the bytes so far, and those of the columns that are left
abbrev pub invariant-loop-column : goal.invariant-loop-column
invariant-loop-column l = (l.bytes + total (map (λ c. width c.holds) (drop l.column-index l.columns)) ≡ row_bytes l.columns) × (28 ≤ l.bytes) × (l.bytes ≤ 28 + 12 * l.column-index)
