use Rattle.std.proofs.Common.{◌≡◌, ◌∙◌, Some, None, ap, rules}
use Rattle.eb_rule_text.specs.declared.trees.Stmt.TheVariants as s
use Rattle.eb_rule_text.specs.Printing.{stmt_text}
use Rattle.eb_rule_text.proofs.Printed.{put_both, put_three}
use Rattle.eb_rule_text.proofs.PrintedTexts.{text_if, text_else}
use Rattle.eb_rule_text.proofs.put_trees.+stating.Goals as goal

pub put_stmt-returns-in-None : goal.put_stmt-returns-in-None
put_stmt-returns-in-None t c =
    let other : c.in-If.other ≡ None = search rules in
    let whole = ap stmt_text c.in-If.is ∙ ap (λ o. stmt_text (s.If c.in-If.test c.in-If.body o)) other ∙ text_if c.in-If.test c.in-If.body in
    put_both _ _ _ _ _ _ c.in_ok-put_test-in-If.ensures c.in_ok-put_block-in-If.ensures (whole ∙ first_of (search rules, cc))

pub put_stmt-returns-in_ok-put_else-in-Some : goal.put_stmt-returns-in_ok-put_else-in-Some
put_stmt-returns-in_ok-put_else-in-Some t c =
    let other : c.in-If.other ≡ Some c.in-Some.more = search rules in
    let whole = ap stmt_text c.in-If.is ∙ ap (λ o. stmt_text (s.If c.in-If.test c.in-If.body o)) other ∙ text_else c.in-If.test c.in-If.body c.in-Some.more in
    put_three _ _ _ _ _ _ _ _ c.in_ok-put_test-in-If.ensures c.in_ok-put_block-in-If.ensures c.in_ok-put_else-in-Some.ensures (whole ∙ first_of (search rules, cc))
