use Rattle.std.proofs.Common.{◌≡◌, drop, get_or}
use Rattle.std.specs.Prelude.{pos, FitsSigned}
use Rattle.std.specs.Int.{w64}
use Rattle.eb_chunk.specs.Columns.{numbers, greatest}
use Rattle.eb_chunk.proofs.views.greatest_in.Given as goal

-- the greatest so far, against the numbers that are left
abbrev pub invariant-loop-row : goal.invariant-loop-row
invariant-loop-row l = let list = numbers l.width l.rows l.bytes in (greatest l.best (drop l.row list) ≡ greatest (get_or list 0 (pos 0)) (drop 1 list)) × FitsSigned w64 l.best
