-- No edit changes the schema.
use Rattle.std.proofs.Common.{◌≡◌, ℕ, Bool, true, false, cond, not, List, [], length, refl, subst}
use Rattle.std.specs.Prelude.{◌&&◌, nat_le, Option, Some, None, is_some, Result, Ok, Err, slice_set, ⊤}
use Rattle.eb_schema.specs.Schemas.{Types}
use Rattle.eb_scene.specs.declared.objects.Given.{Given}
use Rattle.eb_scene.specs.declared.edits.Edit.{Edit}
use Rattle.eb_scene.specs.declared.edits.Edit.TheVariants as edit
use Rattle.eb_scene.specs.declared.edits.EditFault.{EditFault}
use Rattle.eb_scene.specs.declared.edits.EditFault.TheVariants as fault
use Rattle.eb_scene.specs.Fits.{fitted, field_fitted}
use Rattle.eb_scene.specs.Projects.{Content, Objects, numbered}
use Rattle.eb_scene.specs.Tables.{with_numbered, without_numbered, changed}
use Rattle.eb_scene.specs.Edits.{edited, and_so, on_scene, on_scene_at, put_scene, most_assets}

-- a project of this schema, or a refusal
abbrev Keeps : Types → Result Content EditFault → Type 0
Keeps types (Ok h) = h.schema ≡ types
Keeps types (Err e) = ⊤

Keeps-if : (types : Types) (b : Bool) (e : EditFault) (r : Result Content EditFault) → Keeps types r → Keeps types (cond b (Err e) r)
Keeps-if types true e r kept = tt
Keeps-if types false e r kept = kept

Keeps-put : (g : Content) (s : ℕ) (r : Result Objects EditFault) → Keeps g.schema (put_scene g s r)
Keeps-put g s (Ok es) = refl
Keeps-put g s (Err e) = tt

Keeps-at : (g : Content) (s : ℕ) (f : Objects → Result Objects EditFault) (found : Option Objects) → Keeps g.schema (on_scene_at g s f found)
Keeps-at g s f None = tt
Keeps-at g s f (Some es) = Keeps-put g s (f es)

Keeps-scene : (g : Content) (s : ℕ) (f : Objects → Result Objects EditFault) → Keeps g.schema (on_scene g s f)
Keeps-scene g s f = Keeps-at g s f (numbered g.scenes s)

Keeps-so : {S : Type 0} (types : Types) (r : Result S EditFault) (f : S → Result Content EditFault) → ((s : S) → Keeps types (f s)) → Keeps types (and_so r f)
Keeps-so types (Ok s) f kept = kept s
Keeps-so types (Err e) f kept = tt

-- no edit changes the schema
edited-keeps : (g : Content) (e : Edit) → Keeps g.schema (edited g e)
edited-keeps g (edit.AddScene s) = Keeps-if g.schema (is_some (numbered g.scenes s)) fault.SceneTaken (Ok (record g { scenes = with_numbered g.scenes s [] })) refl
edited-keeps g (edit.RemoveScene s) = Keeps-if g.schema (not (is_some (numbered g.scenes s))) fault.NoScene (Ok (record g { scenes = without_numbered g.scenes s })) refl
edited-keeps g (edit.AddObject s n parent mark) = Keeps-scene g s _
edited-keeps g (edit.RemoveObject s n) = Keeps-scene g s _
edited-keeps g (edit.SetParent s n parent) = Keeps-scene g s _
edited-keeps g (edit.SetSection s n mark) = Keeps-scene g s _
edited-keeps g (edit.PutComponent s n kind fields) = Keeps-scene g s _
edited-keeps g (edit.RemoveComponent s n kind) = Keeps-scene g s _
edited-keeps g (edit.SetField s n kind field value) = Keeps-scene g s _
edited-keeps g (edit.PutAsset n fields) = Keeps-so g.schema (fitted g.schema.assets fields) _ (λ values. Keeps-if g.schema (not (is_some (numbered g.assets n)) && nat_le most_assets (length g.assets)) fault.AssetLimit (Ok (record g { assets = with_numbered g.assets n values })) refl)
edited-keeps g (edit.RemoveAsset n) = Keeps-if g.schema (not (is_some (numbered g.assets n))) fault.NoAsset (Ok (record g { assets = without_numbered g.assets n })) refl
edited-keeps g (edit.SetAssetField n field value) = Keeps-so g.schema (field_fitted g.schema.assets field value) _ (λ p. Keeps-if g.schema (not (is_some (numbered g.assets n))) fault.NoAsset (Ok (record g { assets = changed (λ (values : List Given). slice_set values p.0 p.1) g.assets n })) refl)

pub edited-schema : (g h : Content) (e : Edit) → edited g e ≡ Ok h → h.schema ≡ g.schema
edited-schema g h e is = subst (Keeps g.schema) is (edited-keeps g e)
