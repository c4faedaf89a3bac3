use Rattle.std.proofs.Common.{length, ap, arith}
use Rattle.eb_chunk.proofs.ColumnFacts.{length-numbers}
use Rattle.eb_chunk.proofs.views.ColumnView.num.Goals as goal

pub number_at-requires-clause-row : goal.number_at-requires-clause-row
number_at-requires-clause-row g c = omega (arith, c.requires, ap length c.self.view_is, length-numbers g.row.W c.self.inside.rows c.self.inside.bytes.now)
