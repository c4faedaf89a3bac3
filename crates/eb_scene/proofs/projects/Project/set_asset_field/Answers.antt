use Rattle.std.proofs.Common.{sym}
use Rattle.eb_scene.proofs.ValidEdits.{valued_asset}
use Rattle.eb_scene.proofs.projects.Project.set_asset_field.Goals as goal

pub invariant_of-self : goal.invariant_of-self
invariant_of-self c =
    let fits = sym (rw c.asset_fields.ensures.fields at c.in_ok-place.ensures) in
    rw c.set_value.ensures (valued_asset _ c.self.invariant c.args.asset c.args.field.now _ (c.in_ok-place.place, c.in_ok-place.value) fits)
