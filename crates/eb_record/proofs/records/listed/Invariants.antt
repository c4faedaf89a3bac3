use Rattle.std.proofs.Common.{◌≡◌, ◌++◌}
use Rattle.std.specs.FinMap.{values}
use Rattle.std.specs.Map.{values_of}
use Rattle.eb_record.proofs.records.listed.Given as goal

-- the runs so far, and those that are left
abbrev pub invariant-loop-name : goal.invariant-loop-name
invariant-loop-name l = l.ids ++ values_of l._name-iterator ≡ values l.found
