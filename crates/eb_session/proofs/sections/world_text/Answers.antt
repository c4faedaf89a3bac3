use Rattle.eb_session.proofs.DumpFacts.{printed_all}
use Rattle.eb_session.proofs.sections.world_text.Goals as goal

pub returns-in-Ok : goal.returns-in-Ok
returns-in-Ok c = printed_all c.in-Ok.query c.args.schema.now c.args.world.now.live c.rows_text.result c.in-Ok.ensures c.rows_text.ensures
