use Rattle.std.proofs.Common.{◌≡◌, ◌+◌, ◌*◌, sym, ap, ◌∙◌, arith}
use Rattle.eb_schema.specs.Layouts.{capacity}
use Rattle.eb_schema.specs.Slots.{name_in}
use Rattle.eb_chunk.specs.Cells.{part}
use Rattle.eb_chunk.specs.Rows.{RowValue}
use Rattle.eb_chunk.proofs.TableFacts.{row_there}
use Rattle.eb_chunk.proofs.cells.read_name.Goals as goal

pub returns : goal.returns
returns c =
    let cs = c.args.layout.now in let bs = c.args.block.now in let r = c.args.row in let at : capacity cs * 12 + r * 16 ≡ 0 + capacity cs * 12 + r * 16 = omega arith in
    c.get_name.ensures ∙ ap name_in (c.read.ensures.value ∙ ap (λ p. part bs p 16) (c.name_place-at.ensures.place ∙ at)) ∙ ap (λ (row : RowValue). row.name) (sym (row_there cs bs r c.requires))
