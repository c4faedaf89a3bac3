use Rattle.std.proofs.Common.{◌≡◌, ◌++◌, drop}
use Rattle.eb_schema.specs.Layouts.{columns_from}
use Rattle.eb_schema.proofs.layouts.add_fields.Given as goal

-- the columns so far, and those of the fields that are left
abbrev pub invariant-loop-index : goal.invariant-loop-index
invariant-loop-index l = l.columns ++ columns_from l.kind l.index (drop l.index l.fields) ≡ l.fn.columns ++ columns_from l.kind 0 l.fields
