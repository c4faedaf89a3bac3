use Rattle.std.proofs.Common.{◌≡◌, ◌++◌, map, drop}
use Rattle.eb_session.specs.Images.{stored_cell}
use Rattle.eb_session.proofs.imaging.stored_cells.Given as goal

-- what is done and what is left
abbrev pub invariant-loop-cell : goal.invariant-loop-cell
invariant-loop-cell l = l.cells.items ++ map stored_cell (drop l.cell-index l.given) ≡ map stored_cell l.row
