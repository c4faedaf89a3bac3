use Rattle.eb_schema.proofs.TableFacts.{name_put}
use Rattle.eb_schema.proofs.tables.put_name.Goals as goal

pub returns : goal.returns
returns c q = name_put c.args.map.now c.insert.new.self c.in_ok-name.name c.args.name.now c.args.index c.in_ok-name.ensures.items c.in_ok-insert.ensures.entries q
