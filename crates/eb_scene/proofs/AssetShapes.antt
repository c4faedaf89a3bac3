-- The last steps of the edits of assets.
use Rattle.std.proofs.Common.{◌≡◌, ℕ, List, Bool, ◌&&◌, not, nat_le, length, slice_set, is_some, Result, Ok, Err, if◌then◌else◌}
use Rattle.eb_scene.specs.declared.objects.Given.{Given}
use Rattle.eb_scene.specs.declared.edits.EditFault.{EditFault}
use Rattle.eb_scene.specs.declared.edits.EditFault.TheVariants as fault
use Rattle.eb_scene.specs.Projects.{Content, numbered}
use Rattle.eb_scene.specs.Tables.{with_numbered, changed}
use Rattle.eb_scene.specs.Edits.{most_assets}

-- whether a new asset would be one too many
abbrev pub is_asset_full : Content → ℕ → Bool
is_asset_full g n = not (is_some (numbered g.assets n)) && nat_le most_assets (length g.assets)

abbrev pub made : Content → ℕ → List Given → Result Content EditFault
made g n values = if is_asset_full g n then Err fault.AssetLimit else Ok (record g { assets = with_numbered g.assets n values })

abbrev pub valued : Content → ℕ → ℕ × Given → Result Content EditFault
valued g n p = if not (is_some (numbered g.assets n)) then Err fault.NoAsset else Ok (record g { assets = changed (λ values. slice_set values p.0 p.1) g.assets n })
