use Rattle.std.proofs.Common.{sym}
use Rattle.eb_world.proofs.Seats.{still_seated}
use Rattle.eb_world.proofs.worlds.drop_named.Goals as goal

pub returns-in-Some-clause-seats : goal.returns-in-Some-clause-seats
returns-in-Some-clause-seats c =
    still_seated c.args.seats.now c.try_remove.new.self c.args.beings.now.map c.take.new.self.map c.args.name.now c.in-Some.being c.requires (sym c.in-Some.ensures.value)
    c.take.ensures.map c.try_remove.ensures.updates
