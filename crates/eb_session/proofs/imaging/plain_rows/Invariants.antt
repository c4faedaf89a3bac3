use Rattle.std.specs.FinMap.{entries}
use Rattle.eb_session.proofs.RowFacts.{AreRows}
use Rattle.eb_session.proofs.imaging.plain_rows.Given as goal

abbrev pub invariant-loop-name : goal.invariant-loop-name
invariant-loop-name l = AreRows l.schema l.rows.items l.name-iterator (entries l.baked)
