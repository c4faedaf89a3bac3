use Rattle.std.proofs.Common.{◌≡◌, ◌++◌, drop}
use Rattle.eb_rule_text.specs.Printing.{more_inits}
use Rattle.eb_rule_text.proofs.put_trees.put_more_inits.Given as goal

abbrev pub invariant-loop-init : goal.invariant-loop-init
invariant-loop-init l = l.out.items ++ more_inits (drop l.init-index l.inits) ≡ l.fn.out.items ++ more_inits l.inits
