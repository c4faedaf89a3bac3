use Rattle.std.proofs.Common.{◌<◌, take, sym, ap, subst, ◌∙◌}
use Rattle.eb_chunk.specs.Rows.{Held, table, rows, slot_set}
use Rattle.eb_chunk.proofs.RowFacts.{rows_slot}
use Rattle.eb_chunk.proofs.chunks.Chunk.set.Goals as goal

pub returns-clause-rows : goal.returns-clause-rows
returns-clause-rows c =
    let cs = c.args.layout.now in let len = c.self.inside.len in let r = c.args.row in let k = c.args.column in let s = c.args.slot in
    ap (take len) c.write_slot.ensures ∙ rows_slot (table cs c.self.inside.block) len r k s (subst (λ (h : Held). r < h.len) (sym c.self.view_is) c.requires.row)
    ∙ ap (λ h. slot_set (rows cs h) r k s) c.self.view_is
