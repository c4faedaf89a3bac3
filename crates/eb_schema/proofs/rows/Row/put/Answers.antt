use Rattle.std.proofs.Common.{ap, sym, ◌∙◌}
use Rattle.eb_schema.specs.Rows.{takes_cell, put_cell}
use Rattle.eb_schema.proofs.RowFacts.{found_taken, found_put, found_row, full_refused, full_same, gap_put, gap_row}
use Rattle.eb_schema.proofs.rows.Row.put.Goals as goal

-- the type is there
pub invariant_of-self : goal.invariant_of-self
invariant_of-self c = rw c.set.ensures (found_row _ _ c.self.invariant _ (rw c.items.ensures at c.in-Ok.ensures.place) (rw c.items.ensures at c.in-Ok.ensures.bound))

pub returns-in-Ok-clause-told : goal.returns-in-Ok-clause-told
returns-in-Ok-clause-told c =
    sym (found_taken _ c.args.cell c.self.invariant _ (rw c.items.ensures at c.in-Ok.ensures.place) (rw c.items.ensures at c.in-Ok.ensures.bound))
    ∙ ap (λ row. takes_cell row c.args.cell) c.self.view_is

pub returns-in-Ok-clause-ok : goal.returns-in-Ok-clause-ok
returns-in-Ok-clause-ok c =
    c.set.ensures ∙ found_put _ _ c.self.invariant _ (rw c.items.ensures at c.in-Ok.ensures.place) (rw c.items.ensures at c.in-Ok.ensures.bound)
    ∙ ap (λ row. put_cell row c.args.cell) c.self.view_is

-- the type is new and there are 32
pub returns-then-len-ge-MOST_KINDS-clause-told : goal.returns-then-len-ge-MOST_KINDS-clause-told
returns-then-len-ge-MOST_KINDS-clause-told c =
    sym (full_refused _ c.args.cell c.self.invariant _ (rw c.items.ensures at c.in-Err.ensures.place) (rw c.items.ensures at c.in-Err.ensures.bound) (rw c.len.ensures at c.if-len-ge-MOST_KINDS.true))
    ∙ ap (λ row. takes_cell row c.args.cell) c.self.view_is

pub returns-then-len-ge-MOST_KINDS-clause-ok : goal.returns-then-len-ge-MOST_KINDS-clause-ok
returns-then-len-ge-MOST_KINDS-clause-ok c =
    sym c.self.view_is
    ∙ sym (full_same _ _ c.self.invariant _ (rw c.items.ensures at c.in-Err.ensures.place) (rw c.items.ensures at c.in-Err.ensures.bound) (rw c.len.ensures at c.if-len-ge-MOST_KINDS.true))
    ∙ ap (λ row. put_cell row c.args.cell) c.self.view_is

-- the type is new and there is room
pub invariant_of-self-in-Err : goal.invariant_of-self-in-Err
invariant_of-self-in-Err c =
    rw c.in_ok-insert-in-Err.ensures.ok
    (gap_row _ _ c.self.invariant _ (rw c.items.ensures at c.in-Err.ensures.place) (rw c.items.ensures at c.in-Err.ensures.bound) (rw c.len.ensures at c.if-len-ge-MOST_KINDS.false))

pub returns-in_ok-insert-in-Err-clause-ok : goal.returns-in_ok-insert-in-Err-clause-ok
returns-in_ok-insert-in-Err-clause-ok c =
    c.in_ok-insert-in-Err.ensures.ok
    ∙ gap_put _ _ c.self.invariant _ (rw c.items.ensures at c.in-Err.ensures.place) (rw c.items.ensures at c.in-Err.ensures.bound) (rw c.len.ensures at c.if-len-ge-MOST_KINDS.false)
    ∙ ap (λ row. put_cell row c.args.cell) c.self.view_is
