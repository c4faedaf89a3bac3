use Rattle.std.proofs.Common.{◌≡◌, ◌++◌, map, drop}
use Rattle.eb_merge.specs.Standing.{type_beyond}
use Rattle.eb_merge.proofs.own_cells.put_types.Given as goal

-- those so far, and those that are left
abbrev pub invariant-loop-one : goal.invariant-loop-one
invariant-loop-one l = l.out ++ map (type_beyond l.name) (drop l.one-index l.standing) ≡ l.fn.out ++ map (type_beyond l.fn.name) l.fn.standing
