use Rattle.std.proofs.Common.{◌≡◌}
use Rattle.eb_eval.specs.Runs.{row_of}
use Rattle.eb_eval.proofs.outputs.row_of.Given as goal

-- the row of the cells so far
abbrev pub invariant-loop-cell : goal.invariant-loop-cell
invariant-loop-cell l = l.row ≡ row_of l.yielded
