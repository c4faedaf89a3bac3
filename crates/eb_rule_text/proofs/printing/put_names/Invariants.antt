use Rattle.std.proofs.Common.{◌≡◌, ◌++◌, drop}
use Rattle.eb_rule_text.specs.Printing.{names_text}
use Rattle.eb_rule_text.proofs.printing.put_names.Given as goal

abbrev pub invariant-loop-name : goal.invariant-loop-name
invariant-loop-name l = l.out.items ++ names_text (drop l.name-index l.names) ≡ l.fn.out.items ++ names_text l.names
