use Rattle.std.proofs.Common.{◌≡◌, drop}
use Rattle.std.specs.List.{fold}
use Rattle.eb_merge.specs.Standing.{with_gift}
use Rattle.eb_merge.proofs.own_cells.OwnCells.give_row.Given as goal

-- the cells that are left do the rest
abbrev pub invariant-loop-cell : goal.invariant-loop-cell
invariant-loop-cell l = fold (with_gift l.baker) l.self (drop l.cell-index l.row) ≡ fold (with_gift l.fn.baker) l.fn.self l.fn.row
