use Rattle.std.proofs.Common.{sym, ap, ◌∙◌}
use Rattle.eb_scene.specs.Numbers.{with_number, without_number}
use Rattle.eb_scene.proofs.Children.{keys_put, absent_keys, undone}
use Rattle.eb_scene.proofs.assets.Assets.put.Goals as goal

pub invariant_of-self-in-Ok : goal.invariant_of-self-in-Ok
invariant_of-self-in-Ok c =
    rw (c.in_ok-add.ensures.ok, c.in-Ok.ensures.entries)
    (ap (λ ks. with_number ks c.args.number) c.self.invariant ∙ sym (keys_put c.args.number c.args.values c.self.inside.values.entries))

-- no memory for the asset
pub invariant_of-self-in-Err : goal.invariant_of-self-in-Err
invariant_of-self-in-Err c =
    rw (c.remove.ensures.removed, c.in_ok-add.ensures.ok, c.in-Err.ensures.err)
    (ap (λ ks. without_number (with_number ks c.args.number) c.args.number) c.self.invariant ∙ undone c.args.number _ (absent_keys c.args.number c.self.inside.values.entries c.in-Err.ensures.absent))
