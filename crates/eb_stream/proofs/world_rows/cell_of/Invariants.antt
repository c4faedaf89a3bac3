use Rattle.std.proofs.Common.{◌≡◌, ◌++◌, map, drop}
use Rattle.eb_stream.specs.Loading.{val_of}
use Rattle.eb_stream.proofs.world_rows.cell_of.Given as goal

-- what is done and what is left
abbrev pub invariant-loop-value : goal.invariant-loop-value
invariant-loop-value l = l.values.items ++ map val_of (drop l.value-index l.stored_values) ≡ map val_of l.stored.values
