use Rattle.std.proofs.Common.{sym, ◌∙◌}
use Rattle.eb_session.proofs.KeptFacts.{IsKept-edited}
use Rattle.eb_session.proofs.sessions.Session.edit.Goals as goal

pub invariant_of-self : goal.invariant_of-self
invariant_of-self g c =
    let same = c.edit.ensures.schema in
    (c.self.invariant.0 ∙ sym same, rw same c.self.invariant.1, IsKept-edited _ c.edit.new.self.rules c.edit.new.self.project same c.self.invariant.2)
