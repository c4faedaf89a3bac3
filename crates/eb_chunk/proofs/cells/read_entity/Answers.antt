use Rattle.std.proofs.Common.{◌≡◌, ◌+◌, ◌*◌, sym, ap, ◌∙◌, arith}
use Rattle.eb_schema.specs.Slots.{entity_in}
use Rattle.eb_chunk.specs.Cells.{part}
use Rattle.eb_chunk.specs.Rows.{RowValue}
use Rattle.eb_chunk.proofs.TableFacts.{row_there}
use Rattle.eb_chunk.proofs.cells.read_entity.Goals as goal

pub returns : goal.returns
returns c =
    let cs = c.args.layout.now in let bs = c.args.block.now in let r = c.args.row in let at : r * 12 ≡ 0 + r * 12 = omega arith in
    c.get_entity.ensures ∙ ap entity_in (c.read.ensures.value ∙ ap (λ p. part bs p 12) at) ∙ ap (λ (row : RowValue). row.entity) (sym (row_there cs bs r c.requires))
