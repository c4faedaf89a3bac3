use Rattle.eb_scene.proofs.ValidEdits.{gone_scene}
use Rattle.eb_scene.proofs.projects.Project.remove_scene.Goals as goal

pub invariant_of-self : goal.invariant_of-self
invariant_of-self c = rw c.remove.ensures.entries (gone_scene _ c.self.invariant c.args.scene)
