use Rattle.std.proofs.Common.{◌<◌, ◌-◌, take, sym, ap, subst, ◌∙◌, slice_set}
use Rattle.eb_chunk.specs.Rows.{Held, table, rows, row_in}
use Rattle.eb_chunk.proofs.RowFacts.{rows_filled}
use Rattle.eb_chunk.proofs.chunks.Chunk.fill_own.Goals as goal

pub returns-clause-rows : goal.returns-clause-rows
returns-clause-rows c =
    let cs = c.args.layout.now in let len = c.self.inside.len in let g = table cs c.self.inside.block in let r = c.args.row in
    ap (take (len - 1)) c.move_row.ensures ∙ rows_filled g len r (subst (λ (x : Held). r < x.len) (sym c.self.view_is) c.requires.row)
    ∙ ap (λ (h : Held). take (h.len - 1) (slice_set (rows cs h) r (row_in (rows cs h) (h.len - 1)))) c.self.view_is
