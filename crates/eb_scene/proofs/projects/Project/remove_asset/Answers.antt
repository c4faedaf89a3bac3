use Rattle.eb_scene.proofs.ValidEdits.{gone_asset}
use Rattle.eb_scene.proofs.projects.Project.remove_asset.Goals as goal

pub invariant_of-self : goal.invariant_of-self
invariant_of-self c = rw c.take.ensures (gone_asset _ c.self.invariant c.args.asset)
