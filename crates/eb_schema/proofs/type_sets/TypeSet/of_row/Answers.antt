use Rattle.std.proofs.Common.{◌≡◌, ap, ◌∙◌, take}
use Rattle.std.proofs.lemmas.List.{take_all}
use Rattle.eb_schema.specs.Rows.{kinds_of}
use Rattle.eb_schema.proofs.SetFacts.{set_of_row}
use Rattle.eb_schema.proofs.type_sets.TypeSet.of_row.Goals as goal

pub invariant_of-result : goal.invariant_of-result
invariant_of-result c =
    let all : take c.loop-cell.cell-index c.cells-cell-items.result.now ≡ c.args.row.now = take_all _ _ c.loop-cell-test.false ∙ c.cells-cell-items.ensures.cells in
    rw (c.loop-cell.invariant ∙ ap kinds_of all) (set_of_row c.args.row.now (record { order = c.cells-cell-items.ensures.order; few = c.cells-cell-items.ensures.few }))
