use Rattle.eb_merge.proofs.GiftFacts.{none_sorted}
use Rattle.eb_merge.proofs.own_cells.OwnCells.open.Goals as goal

pub invariant_of-result : goal.invariant_of-result
invariant_of-result c = rw c.new.ensures.items none_sorted
