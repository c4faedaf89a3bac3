use Rattle.std.proofs.Common.{sym, ◌∙◌}
use Rattle.eb_world.proofs.Naming.{no_seat, no_being, this_being, other_being}
use Rattle.eb_world.proofs.beings.name_of.Goals as goal

pub returns-in_err-name : goal.returns-in_err-name
returns-in_err-name c =
    c.from_residual.ensures ∙ sym (no_seat c.args.seats.now c.args.beings.now.map c.requires c.args.entity (sym c.in_err-name.ensures))

pub returns-in_err-being : goal.returns-in_err-being
returns-in_err-being c =
    c.from_residual-in_err-being.ensures
    ∙ sym (no_being c.args.seats.now c.args.beings.now.map c.requires c.args.entity c.in_ok-name.field-0.now (sym c.in_ok-name.ensures) (sym c.in_err-being.ensures))

pub returns-then-eq : goal.returns-then-eq
returns-then-eq c =
    sym (this_being c.args.seats.now c.args.beings.now.map c.requires c.args.entity c.in_ok-name.field-0.now (sym c.in_ok-name.ensures)
    c.in_ok-being.being.now (sym c.in_ok-being.ensures) (sym c.if-eq.ensures))

pub returns-else-eq : goal.returns-else-eq
returns-else-eq c =
    sym (other_being c.args.seats.now c.args.beings.now.map c.requires c.args.entity c.in_ok-name.field-0.now (sym c.in_ok-name.ensures)
    c.in_ok-being.being.now (sym c.in_ok-being.ensures) (sym c.if-eq.ensures))
