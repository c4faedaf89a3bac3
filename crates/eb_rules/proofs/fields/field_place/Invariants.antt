use Rattle.std.proofs.Common.{◌≡◌, ◌+◌, drop}
use Rattle.eb_rules.specs.Scopes.{field_place}
use Rattle.eb_rules.proofs.fields.field_place.Given as goal

abbrev pub invariant-loop-at : goal.invariant-loop-at
invariant-loop-at l = field_place l.name (drop l.at l.fields) + l.at ≡ field_place l.name l.fields
