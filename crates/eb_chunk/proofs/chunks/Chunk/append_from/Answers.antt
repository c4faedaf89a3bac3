use Rattle.std.proofs.Common.{◌<◌, ◌+◌, [], ◌∷◌, ◌++◌, take, sym, ap, subst, ◌∙◌, arith}
use Rattle.eb_schema.specs.Layouts.{capacity}
use Rattle.eb_chunk.specs.Rows.{Held, table, rows, row_in, carried}
use Rattle.eb_chunk.proofs.RowFacts.{rows_push, row_kept}
use Rattle.eb_chunk.proofs.TableFacts.{length-table}
use Rattle.eb_chunk.proofs.chunks.Chunk.append_from.Goals as goal

pub returns-clause-rows : goal.returns-clause-rows
returns-clause-rows c =
    let cs = c.args.layout.now in let old = c.args.from_layout.now in let len = c.self.inside.len in let bs = c.self.inside.block in let h = table old c.from.inside.block in let r = c.args.row in
    let room = subst (λ (x : Held). x.len < capacity cs) (sym c.self.view_is) c.requires.room in
    let there = subst (λ (x : Held). r < x.len) (sym c.from.view_is) c.requires.row in
    ap (take (len + 1)) c.carry_row.ensures ∙ rows_push (table cs bs) len (carried cs old (row_in h r)) (omega (arith, length-table cs bs, room))
    ∙ ap (λ x. take len (table cs bs) ++ carried cs old x ∷ []) (sym (row_kept h c.from.inside.len r there))
    ∙ (λ i. rows cs (c.self.view_is i) ++ carried cs old (row_in (rows old (c.from.view_is i)) r) ∷ [])
