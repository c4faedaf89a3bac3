use Rattle.std.proofs.Common.{◌≡◌, ◌++◌, drop}
use Rattle.eb_rule_text.specs.Printing.{stmts_text}
use Rattle.eb_rule_text.proofs.put_trees.+stating.Given as goal

abbrev pub invariant-put_stmts-loop-stmt : goal.invariant-put_stmts-loop-stmt
invariant-put_stmts-loop-stmt l = l.out.items ++ stmts_text (drop l.stmt-index l.body) ≡ l.fn.out.items ++ stmts_text l.body
