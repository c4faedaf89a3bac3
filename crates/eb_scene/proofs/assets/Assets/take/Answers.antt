use Rattle.std.proofs.Common.{sym, ap, ◌∙◌}
use Rattle.eb_scene.specs.Numbers.{without_number}
use Rattle.eb_scene.proofs.Children.{keys_gone}
use Rattle.eb_scene.proofs.assets.Assets.take.Goals as goal

pub invariant_of-self : goal.invariant_of-self
invariant_of-self c =
    rw (c.remove-2.ensures.removed, c.remove.ensures.entries)
    (ap (λ ks. without_number ks c.args.number) c.self.invariant ∙ sym (keys_gone c.args.number c.self.inside.values.entries))
