use Rattle.std.proofs.Common.{codes}
use Rattle.std.specs.Prelude.{option_map}
use Rattle.eb_session.specs.Opening.{project_in}
use Rattle.eb_session.proofs.OpeningFacts.{opens-found}
use Rattle.eb_session.proofs.sessions.read_project.Goals as goal

pub returns-clause-project : goal.returns-clause-project
returns-clause-project g c =
    opens-found (project_in c.args.schema.now) (codes "project.json") (g.H.Shelf.files c.args.shelf.now) (option_map (λ v. v.items) c.in_ok-found.found) c.in_ok-project.project c.in_ok-found.ensures.content c.in_ok-project.ensures.read
