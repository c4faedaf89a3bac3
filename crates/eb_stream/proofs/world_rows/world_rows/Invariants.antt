use Rattle.std.proofs.Common.{◌≡◌, ◌++◌, map, drop}
use Rattle.eb_stream.specs.Loading.{cells_of}
use Rattle.eb_stream.proofs.world_rows.world_rows.Given as goal

-- what is done and what is left
abbrev pub invariant-loop-row : goal.invariant-loop-row
invariant-loop-row l = l.rows.items ++ map cells_of (drop l.row-index l.stored) ≡ map cells_of l.stored
