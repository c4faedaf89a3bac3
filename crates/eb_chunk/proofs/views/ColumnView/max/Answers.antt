use Rattle.std.proofs.Common.{sym, ap, ◌∙◌, arith}
use Rattle.eb_chunk.specs.Columns.{greatest_of}
use Rattle.eb_chunk.proofs.ColumnFacts.{no_numbers}
use Rattle.eb_chunk.proofs.views.ColumnView.max.Goals as goal

pub returns-then-self-eq0 : goal.returns-then-self-eq0
returns-then-self-eq0 g c = ap greatest_of (sym (no_numbers g.row.W c.self.inside.rows c.self.inside.bytes.now (omega (arith, c.if-self-eq0.true))) ∙ c.self.view_is)
