use Rattle.std.proofs.Common.{subst, codes}
use Rattle.std.specs.Prelude.{IfSome, Err}
use Rattle.std.specs.FinMap.{get}
use Rattle.eb_session.specs.Folders.{state_in}
use Rattle.eb_session.specs.Opening.{schema_in, with_schema, Opens}
use Rattle.eb_session.proofs.OpeningFacts.{then_opens, none_opens, opened_is}
use Rattle.eb_session.proofs.sessions.read_folder.Goals as goal

pub returns-in-Ok-clause-opened : goal.returns-in-Ok-clause-opened
returns-in-Ok-clause-opened g c =
    let rest = subst (λ fs. IfSome fs (λ f. Opens state_in c.read_under_schema.result (with_schema f c.in-Ok.schema))) c.read_schema.ensures.files c.read_under_schema.ensures.opened in
    let all = then_opens (λ f. schema_in (get f (codes "schema.json"))) with_schema state_in (g.H.Shelf.files c.args.shelf.now) c.in-Ok.schema c.read_under_schema.result c.in-Ok.ensures.schema rest in
    opened_is state_in (g.H.Shelf.files c.args.shelf.now) c.read_under_schema.result all

pub returns-in-Err-clause-opened : goal.returns-in-Err-clause-opened
returns-in-Err-clause-opened g c =
    let all = none_opens (λ f. schema_in (get f (codes "schema.json"))) with_schema state_in (g.H.Shelf.files c.args.shelf.now) c.in-Err.end c.in-Err.ensures.schema in
    opened_is state_in (g.H.Shelf.files c.args.shelf.now) (Err c.in-Err.end) all
