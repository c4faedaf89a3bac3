use Rattle.std.proofs.Common.{codes}
use Rattle.std.specs.Prelude.{option_map}
use Rattle.eb_session.specs.Opening.{rules_in}
use Rattle.eb_session.proofs.OpeningFacts.{opens-found}
use Rattle.eb_session.proofs.sessions.read_rules.Goals as goal

pub returns-clause-rules : goal.returns-clause-rules
returns-clause-rules g c =
    opens-found (rules_in c.args.schema.now) (codes "bake.rules") (g.H.Shelf.files c.args.shelf.now) (option_map (λ v. v.items) c.in_ok-found.found) c.in_ok-rules.rules c.in_ok-found.ensures.content c.in_ok-rules.ensures.read
