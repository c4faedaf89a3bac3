use Rattle.std.proofs.Common.{sym, ap, ◌∙◌}
use Rattle.eb_bake.specs.Baking.{Bakery}
use Rattle.eb_session.proofs.KeptFacts.{IsKept-empty}
use Rattle.eb_session.proofs.sessions.Session.open.Goals as goal

pub invariant_of-result : goal.invariant_of-result
invariant_of-result g c = (
  c.in_ok-world.ensures.types ∙ c.schema.ensures.schema ∙ ap (λ (b : Bakery). b.project.schema) (sym c.in_ok-baker.ensures.baker),
  tt,
  IsKept-empty _ tt c.in_ok-world.ensures.live,
)

pub returns-clause-opened : goal.returns-clause-opened
returns-clause-opened g c = rw (c.in_ok-world.ensures.live, c.in_ok-world.ensures.made, c.in_ok-baker.ensures.baker) c.in_ok-folder.ensures.opened
