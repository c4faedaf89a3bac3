use Rattle.std.proofs.Common.{map, ap, ◌∙◌}
use Rattle.eb_merge.proofs.GiftFacts.{is_row}
use Rattle.eb_merge.proofs.own_cells.OwnCells.into_row.Goals as goal

pub of-requires : goal.of-requires
of-requires c = rw (c.in_ok-cells.ensures ∙ ap (map (λ x. x.cell)) c.truncate.ensures.items) (is_row c.self.inside.standing.items c.self.invariant)
