use Rattle.std.proofs.Common.{ap, ◌∙◌}
use Rattle.eb_merge.specs.Standing.{with_gift}
use Rattle.eb_merge.proofs.GiftFacts.{noted_here, new_here, sorted_along}
use Rattle.eb_merge.proofs.own_cells.OwnCells.give.Goals as goal

pub invariant_of-self-in-Ok : goal.invariant_of-self-in-Ok
invariant_of-self-in-Ok c =
    sorted_along c.args.baker c.self.inside.standing.items c.note.new.standing.items c.args.cell.now c.self.invariant
    (noted_here c.args.baker c.self.inside.standing.items c.as_slice.result.now c.note.new.standing.items c.args.cell.now c.in-Ok.at c.self.invariant c.as_slice.ensures.value c.in-Ok.ensures.place c.in-Ok.ensures.bound c.in_ok-note-in-Ok.ensures.ok)

pub invariant_of-self-in-Err : goal.invariant_of-self-in-Err
invariant_of-self-in-Err c =
    sorted_along c.args.baker c.self.inside.standing.items c.stand.new.standing.items c.args.cell.now c.self.invariant
    (new_here c.args.baker c.self.inside.standing.items c.as_slice.result.now c.stand.new.standing.items c.args.cell.now c.in-Err.at c.self.invariant c.as_slice.ensures.value c.in-Err.ensures.place c.in_ok-stand-in-Err.ensures.ok)

pub returns-in_ok-note-in-Ok : goal.returns-in_ok-note-in-Ok
returns-in_ok-note-in-Ok c =
    noted_here c.args.baker c.self.inside.standing.items c.as_slice.result.now c.note.new.standing.items c.args.cell.now c.in-Ok.at c.self.invariant c.as_slice.ensures.value c.in-Ok.ensures.place c.in-Ok.ensures.bound c.in_ok-note-in-Ok.ensures.ok
    ∙ ap (λ xs. with_gift c.args.baker xs c.args.cell.now) c.self.view_is

pub returns-in_ok-stand-in-Err : goal.returns-in_ok-stand-in-Err
returns-in_ok-stand-in-Err c =
    new_here c.args.baker c.self.inside.standing.items c.as_slice.result.now c.stand.new.standing.items c.args.cell.now c.in-Err.at c.self.invariant c.as_slice.ensures.value c.in-Err.ensures.place c.in_ok-stand-in-Err.ensures.ok
    ∙ ap (λ xs. with_gift c.args.baker xs c.args.cell.now) c.self.view_is
