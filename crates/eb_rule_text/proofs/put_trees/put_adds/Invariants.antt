use Rattle.std.proofs.Common.{◌≡◌, ◌++◌, drop}
use Rattle.eb_rule_text.specs.Printing.{adds_text}
use Rattle.eb_rule_text.proofs.put_trees.put_adds.Given as goal

abbrev pub invariant-loop-add : goal.invariant-loop-add
invariant-loop-add l = l.out.items ++ adds_text (drop l.add-index l.adds) ≡ l.fn.out.items ++ adds_text l.adds
