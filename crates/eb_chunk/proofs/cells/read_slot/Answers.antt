use Rattle.std.proofs.Common.{ap, ◌∙◌}
use Rattle.eb_schema.specs.Slots.{slot_of}
use Rattle.eb_chunk.specs.Cells.{part}
use Rattle.eb_chunk.proofs.TableFacts.{slot_read}
use Rattle.eb_chunk.proofs.cells.read_slot.Goals as goal

pub returns-clause-value : goal.returns-clause-value
returns-clause-value c =
    let cs = c.args.layout.now in let bs = c.args.block.now in let kind = c.kind_at-kind.ensures in let at = c.place-at.ensures.place in let wide = c.place-at.ensures.width in
    c.get_slot.ensures.value ∙ ap (slot_of c.kind_at-kind.result) c.read.ensures.value ∙ (λ i. slot_of (kind i) (part bs (at i) (wide i)))
    ∙ slot_read cs bs c.args.column c.args.row c.requires.rows c.requires.columns
