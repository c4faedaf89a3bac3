use Rattle.std.proofs.Common.{◌∙◌}
use Rattle.eb_session.proofs.KeptFacts.{IsKept-empty}
use Rattle.eb_session.proofs.sessions.Session.unload_published.Goals as goal

pub invariant_of-self : goal.invariant_of-self
invariant_of-self c = (c.take_out-count.ensures.types ∙ c.self.invariant.0, c.self.invariant.1, IsKept-empty _ c.self.invariant.2.published c.take_out-count.ensures.empty)
