use Rattle.std.proofs.Common.{◌≡◌, ◌+◌, length}
use Rattle.eb_rule_text.specs.Tokens.{tokens, tokens_from, after}
use Rattle.eb_rule_text.proofs.lexing.lex.Given as goal

abbrev pub invariant-loop-rest : goal.invariant-loop-rest
invariant-loop-rest l = (after l.lexed (tokens_from 0 l.at l.rest) ≡ tokens l.text) × (l.at + length l.rest ≡ length l.text)

abbrev pub decreases-loop-rest : goal.decreases-loop-rest
decreases-loop-rest l = length l.rest
