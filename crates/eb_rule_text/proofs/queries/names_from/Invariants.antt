use Rattle.std.proofs.Common.{◌≡◌, [], ◌∷◌, length}
use Rattle.eb_rule_text.specs.Blocks.{names_from}
use Rattle.eb_rule_text.proofs.queries.names_from.Given as goal

abbrev pub invariant-names : goal.invariant-names
invariant-names l = names_from (l.fn.first ∷ []) l.fn.tokens ≡ names_from l.done l.tokens

abbrev pub decreases-names : goal.decreases-names
decreases-names l = length l.tokens
