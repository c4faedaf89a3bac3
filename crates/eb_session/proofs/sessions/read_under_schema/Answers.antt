use Rattle.std.proofs.Common.{subst, codes}
use Rattle.std.specs.Prelude.{IfSome}
use Rattle.std.specs.FinMap.{get}
use Rattle.eb_session.specs.Folders.{state_in}
use Rattle.eb_session.specs.Opening.{rules_in, with_rules, Opens}
use Rattle.eb_session.proofs.OpeningFacts.{then_opens, none_opens}
use Rattle.eb_session.proofs.sessions.read_under_schema.Goals as goal

pub returns-in-Ok-clause-opened : goal.returns-in-Ok-clause-opened
returns-in-Ok-clause-opened g c =
    let rest = subst (λ fs. IfSome fs (λ f. Opens state_in c.read_under_rules.result (with_rules c.args.schema.now f c.in-Ok.rules))) c.read_rules.ensures.files c.read_under_rules.ensures.opened in
    then_opens (λ f. rules_in c.args.schema.now (get f (codes "bake.rules"))) (with_rules c.args.schema.now) state_in (g.H.Shelf.files c.args.shelf.now) c.in-Ok.rules c.read_under_rules.result c.in-Ok.ensures.rules rest

pub returns-in-Err-clause-opened : goal.returns-in-Err-clause-opened
returns-in-Err-clause-opened g c =
    none_opens (λ f. rules_in c.args.schema.now (get f (codes "bake.rules"))) (with_rules c.args.schema.now) state_in (g.H.Shelf.files c.args.shelf.now) c.in-Err.end c.in-Err.ensures.rules
