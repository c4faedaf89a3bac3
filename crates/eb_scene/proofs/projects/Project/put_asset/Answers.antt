use Rattle.std.proofs.Common.{◌<◌, length, sym, ◌∙◌, arith}
use Rattle.eb_scene.specs.Edits.{most_assets}
use Rattle.eb_scene.proofs.ValidParts.{fitted_suit}
use Rattle.eb_scene.proofs.ValidEdits.{new_asset, old_asset}
use Rattle.eb_scene.proofs.projects.Project.put_asset.Goals.{else-not-has-via-then-not-has+else-len-ge-MOST_ASSETS, else-not-has-via-else-not-has}
use Rattle.eb_scene.proofs.projects.Project.put_asset.Goals as goal

pub invariant_of-self-2 : goal.invariant_of-self-2
invariant_of-self-2 c =
    let suit = fitted_suit c.self.inside.schema.assets c.args.fields.now _ (rw c.asset_fields.ensures.fields at c.in_ok-values.ensures) in
    elim c.else-not-has.branch [
      | else-not-has-via-then-not-has+else-len-ge-MOST_ASSETS w ↦
          let room : length c.self.inside.assets < most_assets = omega arith in
          rw c.in_ok-put.ensures.ok (new_asset _ c.self.invariant c.args.asset _ c.requires suit room)
      | else-not-has-via-else-not-has w ↦ rw c.in_ok-put.ensures.ok (old_asset _ c.self.invariant c.args.asset _ c.requires suit (sym c.has.ensures ∙ w.if-not-has.false))
    ]
