use Rattle.eb_schema.proofs.EntityMaps.{keys_ascend}
use Rattle.eb_schema.proofs.baked.Baked.iter.Goals as goal

pub returns-clause-order : goal.returns-clause-order
returns-clause-order c = keys_ascend c.args.self.now
