use Rattle.std.proofs.Common.{◌<◌, ◌+◌, [], ◌∷◌, ◌++◌, take, sym, ap, subst, ◌∙◌, arith}
use Rattle.eb_schema.specs.Layouts.{capacity}
use Rattle.eb_chunk.specs.Rows.{Held, table, rows, row_of}
use Rattle.eb_chunk.proofs.RowFacts.{rows_push}
use Rattle.eb_chunk.proofs.TableFacts.{length-table}
use Rattle.eb_chunk.proofs.chunks.Chunk.push.Goals as goal

pub returns-clause-rows : goal.returns-clause-rows
returns-clause-rows c =
    let cs = c.args.layout.now in let len = c.self.inside.len in let bs = c.self.inside.block in let x = row_of c.args.entity c.args.name c.args.slots.now in
    let room = subst (λ (h : Held). h.len < capacity cs) (sym c.self.view_is) c.requires.room in
    ap (take (len + 1)) c.write_row.ensures ∙ rows_push (table cs bs) len x (omega (arith, length-table cs bs, room)) ∙ ap (λ h. rows cs h ++ x ∷ []) c.self.view_is
