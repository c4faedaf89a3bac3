use Rattle.std.proofs.Common.{◌≡◌, drop}
use Rattle.std.specs.Prelude.{◌+ℤ◌, ◌≤ℤ◌, pos, negsuc, ◌*◌}
use Rattle.eb_chunk.specs.Columns.{numbers, total_of}
use Rattle.eb_chunk.proofs.views.sum_of.Given as goal

-- the sum so far, and that of the numbers that are left
abbrev pub invariant-loop-row : goal.invariant-loop-row
invariant-loop-row l =
    (l.sum +ℤ total_of (drop l.row (numbers l.width l.rows l.bytes)) ≡ total_of (numbers l.width l.rows l.bytes))
    × (negsuc (9223372036854775808 * l.row) ≤ℤ l.sum) × (l.sum ≤ℤ pos (9223372036854775808 * l.row))
