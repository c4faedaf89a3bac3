use Rattle.std.proofs.Common.{◌≡◌, drop}
use Rattle.eb_rules.specs.Queries.{rules_typed, no_rules}
use Rattle.eb_rules.proofs.rules.rules_typed.Given as goal

abbrev pub invariant-loop-rule : goal.invariant-loop-rule
invariant-loop-rule l = rules_typed l.schema (drop l.rule-index l.rules) l.plan l.rest ≡ rules_typed l.schema l.rules no_rules l.places
