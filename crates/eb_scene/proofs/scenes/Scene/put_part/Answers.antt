use Rattle.std.proofs.Common.{refl}
use Rattle.eb_scene.specs.Edits.{with_part}
use Rattle.eb_scene.proofs.IndexFacts.{index_told}
use Rattle.eb_scene.proofs.scenes.Scene.put_part.Goals as goal

pub invariant_of-self : goal.invariant_of-self
invariant_of-self c =
    index_told c.put_part.result (with_part c.args.part) (λ o. refl) c.self.inside.objects _ c.args.number _ _ c.put_part.ensures.ok c.put_part.ensures.err c.self.invariant
