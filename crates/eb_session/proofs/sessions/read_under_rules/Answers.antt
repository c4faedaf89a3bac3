use Rattle.std.proofs.Common.{codes}
use Rattle.std.specs.Prelude.{Ok}
use Rattle.std.specs.FinMap.{get}
use Rattle.eb_session.specs.Folders.{state_in}
use Rattle.eb_session.specs.Opening.{first_state, project_in}
use Rattle.eb_session.proofs.OpeningFacts.{rules_open, none_opens}
use Rattle.eb_session.proofs.sessions.read_under_rules.Goals as goal

pub returns-in-Ok-clause-opened : goal.returns-in-Ok-clause-opened
returns-in-Ok-clause-opened g c = rules_open c.args.schema.now c.args.rules (g.H.Shelf.files c.args.shelf.now) c.in-Ok.project c.in-Ok.ensures.project

pub returns-in-Err-clause-opened : goal.returns-in-Err-clause-opened
returns-in-Err-clause-opened g c =
    none_opens (λ f. project_in c.args.schema.now (get f (codes "project.json"))) (λ f p. Ok (first_state c.args.rules p)) state_in (g.H.Shelf.files c.args.shelf.now) c.in-Err.end c.in-Err.ensures.project
