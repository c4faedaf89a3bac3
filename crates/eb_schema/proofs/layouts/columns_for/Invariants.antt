use Rattle.std.proofs.Common.{◌≡◌, ◌≤◌, ◌*◌, ◌++◌, length, drop}
use Rattle.eb_schema.specs.Layouts.{columns_of}
use Rattle.eb_schema.proofs.layouts.columns_for.Given as goal

-- the columns so far, and those of the types that are left
abbrev pub invariant-loop-kind : goal.invariant-loop-kind
invariant-loop-kind l = (l.columns ++ columns_of l.schema (drop l.kind-index l.kinds) ≡ columns_of l.schema l.kinds) × (length l.columns ≤ 16 * l.kind-index)
