use Rattle.std.proofs.Common.{◌∙◌, ap, rules}
use Rattle.eb_rule_text.specs.Printing.{expr_text}
use Rattle.eb_rule_text.proofs.Printed.{text_false, text_find, text_fix, text_int, text_name, text_negate, text_not, text_null, text_paren, text_read, text_to_fix, text_to_int, text_true, text_chain, put_both}
use Rattle.eb_rule_text.proofs.put_trees.+putting.Goals as goal

pub put_expr-returns-in-Int : goal.put_expr-returns-in-Int
put_expr-returns-in-Int t c = rw (ap expr_text c.in-Int.is ∙ text_int _) (first_of (search rules, cc))

pub put_expr-returns-in-Fix : goal.put_expr-returns-in-Fix
put_expr-returns-in-Fix t c = rw (ap expr_text c.in-Fix.is ∙ text_fix _) (first_of (search rules, cc))

pub put_expr-returns-in-True : goal.put_expr-returns-in-True
put_expr-returns-in-True t c = rw (ap expr_text c.in-True.is ∙ text_true) (first_of (search rules, cc))

pub put_expr-returns-in-False : goal.put_expr-returns-in-False
put_expr-returns-in-False t c = rw (ap expr_text c.in-False.is ∙ text_false) (first_of (search rules, cc))

pub put_expr-returns-in-Null : goal.put_expr-returns-in-Null
put_expr-returns-in-Null t c = rw (ap expr_text c.in-Null.is ∙ text_null) (first_of (search rules, cc))

pub put_expr-returns-in-Name : goal.put_expr-returns-in-Name
put_expr-returns-in-Name t c = rw (ap expr_text c.in-Name.is ∙ text_name _) (first_of (search rules, cc))

pub put_expr-returns-in-Paren : goal.put_expr-returns-in-Paren
put_expr-returns-in-Paren t c = rw (ap expr_text c.in-Paren.is ∙ text_paren _) (first_of (search rules, cc))

pub put_expr-returns-in-ToFix : goal.put_expr-returns-in-ToFix
put_expr-returns-in-ToFix t c = rw (ap expr_text c.in-ToFix.is ∙ text_to_fix _) (first_of (search rules, cc))

pub put_expr-returns-in-ToInt : goal.put_expr-returns-in-ToInt
put_expr-returns-in-ToInt t c = rw (ap expr_text c.in-ToInt.is ∙ text_to_int _) (first_of (search rules, cc))

pub put_expr-returns-in-Read : goal.put_expr-returns-in-Read
put_expr-returns-in-Read t c = rw (ap expr_text c.in-Read.is ∙ text_read _) (first_of (search rules, cc))

pub put_expr-returns-in-Find : goal.put_expr-returns-in-Find
put_expr-returns-in-Find t c = rw (ap expr_text c.in-Find.is ∙ text_find _ _) (first_of (search rules, cc))

pub put_expr-returns-in-Negate : goal.put_expr-returns-in-Negate
put_expr-returns-in-Negate t c = rw (ap expr_text c.in-Negate.is ∙ text_negate _) (first_of (search rules, cc))

pub put_expr-returns-in-Not : goal.put_expr-returns-in-Not
put_expr-returns-in-Not t c = rw (ap expr_text c.in-Not.is ∙ text_not _) (first_of (search rules, cc))

pub put_expr-returns-in_ok-put_links-in-Chain : goal.put_expr-returns-in_ok-put_links-in-Chain
put_expr-returns-in_ok-put_links-in-Chain t c =
    put_both _ _ _ _ _ _ c.in_ok-put_expr-in-Chain.ensures c.in_ok-put_links-in-Chain.ensures (ap expr_text c.in-Chain.is ∙ text_chain _ _ ∙ first_of (search rules, cc))
