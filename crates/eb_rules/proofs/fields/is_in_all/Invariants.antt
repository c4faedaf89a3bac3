use Rattle.std.proofs.Common.{◌≡◌, drop}
use Rattle.eb_rules.specs.Scopes.{is_in_all}
use Rattle.eb_rules.proofs.fields.is_in_all.Given as goal

abbrev pub invariant-loop-other : goal.invariant-loop-other
invariant-loop-other l = is_in_all l.kind (drop l.other-index l.all) ≡ is_in_all l.kind l.all
