use Rattle.std.proofs.Common.{◌≤◌, ◌+◌, ◌*◌, ℕ, length, take, drop, sym, ap, subst, ◌∙◌, arith}
use Rattle.eb_schema.specs.Layouts.{capacity}
use Rattle.eb_chunk.specs.Rows.{Held, rows}
use Rattle.eb_chunk.specs.Columns.{numbers, column_of}
use Rattle.eb_chunk.proofs.ColumnFacts.{rows_room, view_size, view_width, column_numbers, length-numbers}
use Rattle.eb_chunk.proofs.chunks.Chunk.column.Goals as goal

pub read-requires : goal.read-requires
read-requires g c =
    let cs = c.args.layout.now in let len = c.self.inside.len in let few = subst (λ (h : Held). h.len ≤ capacity cs) (sym c.self.view_is) c.requires.own in let e = c.start_of-start.ensures in let wide = c.requires.width in
    subst (λ (n : ℕ). n ≤ 16384) (λ i. sym e i + len * wide i) (rows_room cs c.args.column len c.requires.column few)

pub of-requires : goal.of-requires
of-requires g c =
    let cs = c.args.layout.now in let len = c.self.inside.len in let bs = c.self.inside.block in let few = subst (λ (h : Held). h.len ≤ capacity cs) (sym c.self.view_is) c.requires.own in let w = g.row.W in
    let at = c.read.ensures.value ∙ ap (λ s. take (len * w) (drop s bs)) c.start_of-start.ensures in (
      omega arith,
      record {
        width = view_width cs bs c.args.column len w c.requires.column few c.read.ensures.size c.requires.number c.requires.width;
        size = ap length at ∙ view_size cs bs c.args.column len w c.requires.column few c.read.ensures.size c.requires.number c.requires.width;
        few = omega (arith, few, c.capacity-most.ensures.value, c.capacity-most.ensures.most);
      },
    )

pub returns-clause-numbers : goal.returns-clause-numbers
returns-clause-numbers g c =
    let cs = c.args.layout.now in let len = c.self.inside.len in let bs = c.self.inside.block in let few = subst (λ (h : Held). h.len ≤ capacity cs) (sym c.self.view_is) c.requires.own in let w = g.row.W in
    let at = c.read.ensures.value ∙ ap (λ s. take (len * w) (drop s bs)) c.start_of-start.ensures in
    c.of.ensures ∙ ap (numbers w len) at ∙ column_numbers cs bs c.args.column len w c.requires.column few c.read.ensures.size c.requires.number c.requires.width
    ∙ ap (λ h. column_of (rows cs h) c.args.column) c.self.view_is

pub returns-clause-len : goal.returns-clause-len
returns-clause-len g c = ap length c.of.ensures ∙ length-numbers g.row.W c.self.inside.len c.read.result.now ∙ ap (λ (h : Held). h.len) c.self.view_is
