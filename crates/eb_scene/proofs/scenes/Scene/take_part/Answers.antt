use Rattle.std.proofs.Common.{refl}
use Rattle.eb_scene.specs.Edits.{without_part}
use Rattle.eb_scene.proofs.IndexFacts.{index_alike}
use Rattle.eb_scene.proofs.scenes.Scene.take_part.Goals as goal

pub invariant_of-self : goal.invariant_of-self
invariant_of-self c = rw c.take_part.ensures (index_alike (without_part c.args.kind) (λ o. refl) c.self.inside.objects c.args.number _ _ c.self.invariant)
