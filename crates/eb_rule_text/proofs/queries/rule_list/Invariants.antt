use Rattle.std.proofs.Common.{◌≡◌, ◌-◌}
use Rattle.eb_rule_text.specs.Blocks.{rule_list, rules_from}
use Rattle.eb_rule_text.proofs.queries.rule_list.Given as goal

abbrev pub invariant-loop-turn : goal.invariant-loop-turn
invariant-loop-turn l = rule_list l.fn.tokens ≡ rules_from (l._turn-end - l._turn) l.done l.tokens
