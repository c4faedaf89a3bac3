use Rattle.eb_rules.proofs.texts.Rules.tree.Goals as goal

pub returns-clause-typed : goal.returns-clause-typed
returns-clause-typed c = rw (← c.self.view_is) c.self.invariant.0.1.typed
