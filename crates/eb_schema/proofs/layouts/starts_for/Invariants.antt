use Rattle.std.proofs.Common.{◌≡◌, ◌≤◌, ◌+◌, ◌*◌, ◌++◌, map, drop}
use Rattle.eb_schema.specs.Slots.{width}
use Rattle.eb_schema.specs.Layouts.{starts_from, starts}
use Rattle.eb_schema.proofs.layouts.starts_for.Given as goal

-- the places so far, and those of the columns that are left
abbrev pub invariant-loop-column : goal.invariant-loop-column
invariant-loop-column l = (l.list ++ starts_from l.rows l.at (map (λ c. width c.holds) (drop l.column-index l.columns)) ≡ starts l.columns) × (l.at ≤ 3584 + 1536 * l.column-index)
