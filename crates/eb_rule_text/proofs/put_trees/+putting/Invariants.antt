use Rattle.std.proofs.Common.{◌≡◌, ◌++◌, drop}
use Rattle.eb_rule_text.specs.Printing.{chain_text}
use Rattle.eb_rule_text.proofs.put_trees.+putting.Given as goal

abbrev pub invariant-put_links-loop-link : goal.invariant-put_links-loop-link
invariant-put_links-loop-link l = l.out.items ++ chain_text (drop l.link-index l.links) ≡ l.fn.out.items ++ chain_text l.links
