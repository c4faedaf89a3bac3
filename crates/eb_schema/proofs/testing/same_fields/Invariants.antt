use Rattle.std.proofs.Common.{◌≡◌, drop}
use Rattle.eb_schema.specs.SchemaTests.{same_fields}
use Rattle.eb_schema.proofs.testing.same_fields.Given as goal

abbrev pub invariant-loop-index : goal.invariant-loop-index
invariant-loop-index l = same_fields (drop l.index l.left) (drop l.index l.right) ≡ same_fields l.left l.right
