use Rattle.std.proofs.Common.{drop}
use Rattle.eb_schema.proofs.SetFacts.{ascends_set}
use Rattle.eb_schema.proofs.type_sets.each_once.Goals as goal

pub add-requires : goal.add-requires
add-requires c = rw c.loop-index.invariant.set (ascends_set (drop c.loop-index.index c.args.kinds.now))
