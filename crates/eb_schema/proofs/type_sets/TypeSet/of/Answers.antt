use Rattle.eb_schema.proofs.SetFacts.{is_set}
use Rattle.eb_schema.proofs.type_sets.TypeSet.of.Goals as goal

pub invariant_of-result : goal.invariant_of-result
invariant_of-result c = is_set c.args.kinds.now _ c.in_ok-kinds.ensures (rw c.len.ensures at c.if-len-gt-MOST_KINDS.false)
