use Rattle.std.proofs.Common.{◌<◌, ◌-◌, take, sym, ap, subst, ◌∙◌, arith, slice_set}
use Rattle.eb_chunk.specs.Rows.{Held, table, rows, row_in}
use Rattle.eb_chunk.proofs.RowFacts.{rows_set, row_kept}
use Rattle.eb_chunk.proofs.chunks.Chunk.fill_gap.Goals as goal

pub returns-clause-rows : goal.returns-clause-rows
returns-clause-rows c =
    let cs = c.args.layout.now in let len = c.self.inside.len in let g = table cs c.self.inside.block in let r = c.args.row in
    let many = c.last.inside.len in let h = table cs c.last.inside.block in
    let some = subst (λ (x : Held). 0 < x.len) (sym c.last.view_is) c.requires.some in
    ap (take len) c.copy_row_from.ensures ∙ rows_set g len r (row_in h (many - 1)) (subst (λ (x : Held). r < x.len) (sym c.self.view_is) c.requires.row)
    ∙ ap (slice_set (take len g) r) (sym (row_kept h many (many - 1) (omega (arith, some))))
    ∙ (λ i. slice_set (rows cs (c.self.view_is i)) r (row_in (rows cs (c.last.view_is i)) ((c.last.view_is i).len - 1)))
