use Rattle.std.proofs.Common.{◌∙◌}
use Rattle.eb_scene.proofs.Removing.{one_taken}
use Rattle.eb_scene.proofs.numbers.Numbers.remove_all.Goals as goal

pub returns-then-gone-eq1-clause-removed : goal.returns-then-gone-eq1-clause-removed
returns-then-gone-eq1-clause-removed c = c.remove.ensures.removed ∙ one_taken c.args.gone.now c.args.self.now c.if-gone-eq1.true c.remove.ensures.order
