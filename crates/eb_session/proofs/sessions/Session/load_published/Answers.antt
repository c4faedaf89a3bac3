use Rattle.std.proofs.Common.{◌∙◌, ap}
use Rattle.std.specs.Prelude.{option_map}
use Rattle.eb_session.specs.declared.sections.Published.{Published}
use Rattle.eb_session.proofs.KeptFacts.{IsKept-empty, IsKept-loaded, nothing_lives, published_section}
use Rattle.eb_session.proofs.sessions.Session.load_published.Goals as goal

pub bring_in-requires-clause-empty : goal.bring_in-requires-clause-empty
bring_in-requires-clause-empty c = nothing_lives _ c.self.invariant.2 c.if-self.false

pub invariant_of-self : goal.invariant_of-self
invariant_of-self c = (c.bring_in.ensures.types ∙ c.self.invariant.0, c.self.invariant.1, IsKept-empty _ c.self.invariant.2.published c.in_err-bring_in.ensures.err)

pub invariant_of-self-2 : goal.invariant_of-self-2
invariant_of-self-2 c = (
  c.bring_in.ensures.types ∙ c.self.invariant.0,
  c.self.invariant.1,
  IsKept-loaded _ c.self.inside.world.live c.in-Some.published.image (ap (option_map (λ (p : Published). p.image)) c.in-Some.is)
      (published_section c.self.inside.baker.project.schema c.self.inside.published c.in-Some.published c.in-Some.is c.self.invariant.2.published)
      c.in_ok-bring_in.ensures.is_loaded (nothing_lives _ c.self.invariant.2 c.if-self.false) c.in_ok-bring_in.ensures.live,
)
