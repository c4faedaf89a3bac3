use Rattle.std.proofs.Common.{arith}
use Rattle.eb_schema.proofs.LayoutFacts.{capacity_most}
use Rattle.eb_schema.proofs.layouts.Layout.capacity.Goals as goal

pub returns-clause-most : goal.returns-clause-most
returns-clause-most c = omega (arith, c.self.invariant.room, capacity_most c.self.inside.columns)
