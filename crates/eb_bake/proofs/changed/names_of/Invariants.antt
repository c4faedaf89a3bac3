use Rattle.std.proofs.Common.{◌≡◌, ◌++◌}
use Rattle.std.specs.Map.{keys_of}
use Rattle.std.specs.FinMap.{keys}
use Rattle.eb_bake.proofs.changed.names_of.Given as goal

-- the names so far, and those that are left
abbrev pub invariant-loop-name : goal.invariant-loop-name
invariant-loop-name l = l.names ++ keys_of l.name-iterator ≡ keys l.set
