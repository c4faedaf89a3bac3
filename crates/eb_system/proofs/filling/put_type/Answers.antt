use Rattle.eb_system.proofs.TypeFacts.{there_already, new_there, sorted_along}
use Rattle.eb_system.proofs.filling.put_type.Goals as goal

pub returns-in-Ok-clause-kinds : goal.returns-in-Ok-clause-kinds
returns-in-Ok-clause-kinds c = there_already c.args.kind c.args.kinds.now c.items.result.now c.in-Ok.field-0 c.items.ensures c.in-Ok.ensures.place

pub returns-in_ok-insert-in-Err-clause-kinds : goal.returns-in_ok-insert-in-Err-clause-kinds
returns-in_ok-insert-in-Err-clause-kinds c = new_there c.args.kind c.args.kinds.now c.items.result.now c.insert.new.self c.in-Err.at c.items.ensures c.in-Err.ensures.place c.in_ok-insert-in-Err.ensures.ok

pub returns-in_ok-insert-in-Err-clause-order : goal.returns-in_ok-insert-in-Err-clause-order
returns-in_ok-insert-in-Err-clause-order c =
    sorted_along c.args.kind c.args.kinds.now c.insert.new.self c.requires
    (new_there c.args.kind c.args.kinds.now c.items.result.now c.insert.new.self c.in-Err.at c.items.ensures c.in-Err.ensures.place c.in_ok-insert-in-Err.ensures.ok)
