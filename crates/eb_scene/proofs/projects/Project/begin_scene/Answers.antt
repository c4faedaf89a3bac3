use Rattle.eb_scene.proofs.ValidEdits.{made_scene}
use Rattle.eb_scene.proofs.projects.Project.begin_scene.Goals as goal

pub invariant_of-self-2 : goal.invariant_of-self-2
invariant_of-self-2 c = rw (c.in_ok-insert.ensures.entries, c.new.ensures) (made_scene _ c.self.invariant c.args.scene c.requires)
