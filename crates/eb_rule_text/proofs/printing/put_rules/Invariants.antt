use Rattle.std.proofs.Common.{◌≡◌, ◌++◌, drop}
use Rattle.eb_rule_text.specs.Printing.{rule_list_text}
use Rattle.eb_rule_text.proofs.printing.put_rules.Given as goal

abbrev pub invariant-loop-rule : goal.invariant-loop-rule
invariant-loop-rule l = l.out.items ++ rule_list_text (drop l.rule-index l.rules) ≡ l.fn.out.items ++ rule_list_text l.rules
