use Rattle.eb_system.proofs.KeptFacts.{kept_more}
use Rattle.eb_system.proofs.before.Before.keep.Goals as goal

pub invariant_of-self-in_ok-insert-2 : goal.invariant_of-self-in_ok-insert-2
invariant_of-self-in_ok-insert-2 c =
    kept_more c.self.inside.entities.now c.args.summed.now c.in_ok-totals.totals c.in_ok-totals.ensures c.self.inside.totals c.insert.new.self c.self.invariant c.in_ok-insert.ensures.updates.0
