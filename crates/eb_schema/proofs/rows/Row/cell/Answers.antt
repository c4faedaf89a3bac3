use Rattle.std.proofs.Common.{ap, ◌∙◌}
use Rattle.eb_schema.specs.Rows.{cell_of}
use Rattle.eb_schema.proofs.TypeOrderFacts.{found_at, found_at_place}
use Rattle.eb_schema.proofs.rows.Row.cell.Goals as goal

pub returns-in-Ok : goal.returns-in-Ok
returns-in-Ok c =
    c.get.ensures ∙ ap (λ r. found_at (λ c. c.kind) r c.self.inside.cells) (rw c.items.ensures at c.in-Ok.ensures.place)
    ∙ found_at_place (λ c. c.kind) c.args.kind c.self.inside.cells c.self.invariant.order ∙ ap (λ row. cell_of row c.args.kind) c.self.view_is

pub returns-in-Err : goal.returns-in-Err
returns-in-Err c =
    ap (λ r. found_at (λ c. c.kind) r c.self.inside.cells) (rw c.items.ensures at c.in-Err.ensures.place)
    ∙ found_at_place (λ c. c.kind) c.args.kind c.self.inside.cells c.self.invariant.order ∙ ap (λ row. cell_of row c.args.kind) c.self.view_is
