use Rattle.std.proofs.Common.{sym}
use Rattle.eb_scene.proofs.IndexFacts.{index_put, index_kept, index_undone}
use Rattle.eb_scene.proofs.scenes.Scene.put.Goals as goal

-- no memory for the list of children
pub invariant_of-self-in-Err : goal.invariant_of-self-in-Err
invariant_of-self-in-Err c =
    rw (c.remove.ensures.removed, c.in_ok-add.ensures.ok)
    (index_kept c.args.number c.self.inside.objects c.self.inside.below _ c.self.inside.numbers c.self.invariant (rw (sym c.self.view_is) at c.requires) c.in-Err.ensures.err)

-- no memory for the object
pub invariant_of-self-in-Err-put : goal.invariant_of-self-in-Err-put
invariant_of-self-in-Err-put c =
    rw (c.remove-in-Err-put.ensures.removed, c.in_ok-add.ensures.ok, c.in-Err-put.ensures.err)
    (index_undone c.args.number c.args.object c.self.inside.objects c.self.inside.below _ _ c.self.inside.numbers c.self.invariant (rw (sym c.self.view_is) at c.requires) c.in-Ok.ensures.ok c.unhang.ensures)

pub invariant_of-self-in-Ok-put : goal.invariant_of-self-in-Ok-put
invariant_of-self-in-Ok-put c =
    rw (c.in_ok-add.ensures.ok, c.in-Ok-put.ensures.ok)
    (index_put c.args.number c.args.object c.self.inside.objects c.self.inside.below _ c.self.inside.numbers c.self.invariant c.put.ensures.order (rw (sym c.self.view_is) at c.requires) c.in-Ok.ensures.ok)
