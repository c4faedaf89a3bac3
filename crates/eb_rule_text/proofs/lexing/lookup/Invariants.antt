use Rattle.std.proofs.Common.{◌≡◌, drop, map}
use Rattle.eb_rule_text.specs.Tokens.{lookup}
use Rattle.eb_rule_text.proofs.lexing.lookup.Given as goal

abbrev pub invariant-loop-entry : goal.invariant-loop-entry
invariant-loop-entry l = lookup (map (λ k. (k.0.now, k.1)) (drop l.entry-index l.table)) l.word ≡ lookup (map (λ k. (k.0.now, k.1)) l.table) l.word
