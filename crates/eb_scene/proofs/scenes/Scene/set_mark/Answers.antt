use Rattle.std.proofs.Common.{refl}
use Rattle.eb_scene.specs.Edits.{marked}
use Rattle.eb_scene.proofs.IndexFacts.{index_alike}
use Rattle.eb_scene.proofs.scenes.Scene.set_mark.Goals as goal

pub invariant_of-self : goal.invariant_of-self
invariant_of-self c = rw c.set_mark.ensures (index_alike (marked c.args.mark) (λ o. refl) c.self.inside.objects c.args.number _ _ c.self.invariant)
