use Rattle.std.proofs.Common.{ap, ◌∙◌}
use Rattle.eb_scene.specs.Trees.{without_all}
use Rattle.eb_scene.proofs.IndexFacts.{index_without}
use Rattle.eb_scene.proofs.Removing.{backward}
use Rattle.eb_scene.proofs.scenes.Scene.take_all.Goals as goal

pub invariant_of-self : goal.invariant_of-self
invariant_of-self c =
    rw (c.take_out_all.ensures.objects, c.deref.ensures.value, c.remove_all.ensures.removed, c.deref-2.ensures.value)
    (index_without c.reverse.new.self.items c.sort_unstable.new.self.items c.self.inside.objects c.take_out_all.new.below c.self.inside.numbers c.self.invariant.numbers c.remove_all.ensures.order
    c.sort_unstable.ensures.permutation (rw (c.take_out_all.ensures.objects, c.deref.ensures.value) at c.take_out_all.ensures.lists))

pub returns : goal.returns
returns c =
    c.take_out_all.ensures.objects ∙ ap (without_all c.self.inside.objects) (c.deref.ensures.value ∙ c.reverse.ensures.items)
    ∙ backward c.args.gone.items c.self.inside.objects ∙ ap (λ es. without_all es c.args.gone.items) c.self.view_is
