use Rattle.std.proofs.Common.{◌≡◌, drop}
use Rattle.eb_rules.specs.Queries.{clashes}
use Rattle.eb_rules.proofs.queries.clashes.Given as goal

abbrev pub invariant-loop-kind : goal.invariant-loop-kind
invariant-loop-kind l = clashes l.all l.any (drop l.kind-index l.none) ≡ clashes l.all l.any l.none
