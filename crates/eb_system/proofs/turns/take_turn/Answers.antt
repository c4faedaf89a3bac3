use Rattle.eb_system.specs.Sights.{system_sight}
use Rattle.eb_system.proofs.TurnFacts.{turn_through, turn_broken}
use Rattle.eb_system.proofs.turns.take_turn.Goals as goal

pub returns-in-Ok : goal.returns-in-Ok
returns-in-Ok c =
    turn_through (system_sight c.args.reads.now.before.now c.args.reads.now.name c.args.reads.now.row.now) c.args.body.now c.new.result c.new-2.result c.new-3.result c.new-noted.result
    c.act_all.new.scope c.act_all.new.noted c.new.ensures c.new-2.ensures c.new-3.ensures c.new-noted.ensures c.in-Ok.ensures

pub returns-in-Err-Fault : goal.returns-in-Err-Fault
returns-in-Err-Fault c =
    turn_broken (system_sight c.args.reads.now.before.now c.args.reads.now.name c.args.reads.now.row.now) c.args.body.now c.new.result c.new-2.result c.new-3.result c.new-noted.result
    c.act_all.new.scope c.in-Err-Fault.fault c.act_all.new.noted c.new.ensures c.new-2.ensures c.new-3.ensures c.new-noted.ensures (rw c.in-Err-Fault.field-0-is at c.in-Err-Fault.ensures)
