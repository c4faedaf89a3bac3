use Rattle.std.proofs.Common.{◌≡◌, ◌++◌, map, drop}
use Rattle.eb_stream.specs.Loading.{world_cell}
use Rattle.eb_stream.proofs.world_rows.world_cells.Given as goal

-- what is done and what is left
abbrev pub invariant-loop-cell : goal.invariant-loop-cell
invariant-loop-cell l = l.cells.items ++ map world_cell (drop l.cell-index l.stored_cells) ≡ map world_cell l.stored.cells
