use Rattle.std.proofs.Common.{◌≡◌, map}
use Rattle.eb_merge.proofs.own_cells.cells_of.Given as goal

-- the cells so far
abbrev pub invariant-loop-one : goal.invariant-loop-one
invariant-loop-one l = l.cells ≡ map (λ x. x.cell) l.yielded
