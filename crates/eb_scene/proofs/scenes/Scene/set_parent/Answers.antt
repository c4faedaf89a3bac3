use Rattle.std.proofs.Common.{sym}
use Rattle.eb_scene.proofs.IndexFacts.{index_moved}
use Rattle.eb_scene.proofs.scenes.Scene.set_parent.Goals as goal

pub invariant_of-self-2 : goal.invariant_of-self-2
invariant_of-self-2 c =
    rw c.set_parent.ensures.set
    (index_moved c.args.number c.args.parent c.self.inside.objects c.self.inside.below _ _ c.self.invariant (rw (sym c.self.view_is) at c.requires) c.set_parent.ensures.order
    (rw c.parent-old.ensures at c.in_ok-rehang.ensures.ok))
