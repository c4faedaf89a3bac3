use Rattle.std.proofs.Common.{codes}
use Rattle.std.specs.Prelude.{option_map}
use Rattle.eb_session.specs.Opening.{schema_in}
use Rattle.eb_session.proofs.OpeningFacts.{opens-found}
use Rattle.eb_session.proofs.sessions.read_schema.Goals as goal

pub returns-clause-schema : goal.returns-clause-schema
returns-clause-schema g c =
    opens-found schema_in (codes "schema.json") (g.H.Shelf.files c.args.shelf.now) (option_map (λ v. v.items) c.in_ok-found.found) c.in_ok-schema.schema c.in_ok-found.ensures.content c.in_ok-schema.ensures
