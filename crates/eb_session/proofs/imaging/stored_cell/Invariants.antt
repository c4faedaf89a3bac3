use Rattle.std.proofs.Common.{◌≡◌, ◌++◌, map, drop}
use Rattle.eb_session.specs.Images.{stored_of}
use Rattle.eb_session.proofs.imaging.stored_cell.Given as goal

-- what is done and what is left
abbrev pub invariant-loop-value : goal.invariant-loop-value
invariant-loop-value l = l.values.items ++ map stored_of (drop l.value-index l.given) ≡ map stored_of l.cell.values
