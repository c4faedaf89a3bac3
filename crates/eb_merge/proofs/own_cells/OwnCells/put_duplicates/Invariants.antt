use Rattle.std.proofs.Common.{◌≡◌, ◌++◌, drop}
use Rattle.eb_merge.specs.Standing.{duplicates_of}
use Rattle.eb_merge.proofs.own_cells.OwnCells.put_duplicates.Given as goal

-- those so far, and those of the types that are left
abbrev pub invariant-loop-standing : goal.invariant-loop-standing
invariant-loop-standing l = l.out ++ duplicates_of l.name (drop l.standing-index l.standing-items) ≡ l.fn.out ++ duplicates_of l.fn.name l.standing-items
