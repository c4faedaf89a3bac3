use Rattle.std.proofs.Common.{refl}
use Rattle.eb_scene.specs.Edits.{with_value}
use Rattle.eb_scene.proofs.IndexFacts.{index_alike}
use Rattle.eb_scene.proofs.scenes.Scene.set_value.Goals as goal

pub invariant_of-self : goal.invariant_of-self
invariant_of-self c = rw c.set_value.ensures (index_alike (with_value c.args.kind c.args.place c.args.value) (λ o. refl) c.self.inside.objects c.args.number _ _ c.self.invariant)
