-- what is counted and what is left
use Rattle.std.proofs.Common.{◌≡◌, ◌+◌, length, drop}
use Rattle.eb_world.specs.Beings.{flat}
use Rattle.eb_world.proofs.spares.value_count.Given as goal

abbrev pub invariant-loop-cell : goal.invariant-loop-cell
invariant-loop-cell l = l.count + length (flat (drop l.cell-index l.row)) ≡ length (flat l.row)
