use Rattle.std.proofs.Common.{◌≡◌, drop}
use Rattle.eb_rules.specs.Scopes.{field_kind}
use Rattle.eb_rules.proofs.fields.find_field.Given as goal

abbrev pub invariant-loop-field : goal.invariant-loop-field
invariant-loop-field l = field_kind l.name (drop l.field-index l.fields) ≡ field_kind l.name l.fields
