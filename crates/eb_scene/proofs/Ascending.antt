-- All lists of a project ascend, whatever is edited.
use Rattle.std.proofs.Common.{◌≡◌, ℕ, List, [], ◌∷◌, Bool, true, false, not, is_some, nat_eq, Option, Some, None, slice_set, Result, Ok, Err, refl, sym, ap, subst, ◌∙◌, nat_cmp}
use Rattle.std.specs.Option.{unwrap_or}
use Rattle.std.specs.Map.{keys_of}
use Rattle.std.specs.List.Sorted.{IsStrictlySortedBy}
use Rattle.eb_schema.specs.Schemas.{Types}
use Rattle.eb_scene.specs.declared.objects.Given.{Given}
use Rattle.eb_scene.specs.declared.edits.Edit.{Edit}
use Rattle.eb_scene.specs.declared.edits.Edit.TheVariants as edit
use Rattle.eb_scene.specs.declared.edits.EditFault.{EditFault}
use Rattle.eb_scene.specs.declared.edits.EditFault.TheVariants as fault
use Rattle.eb_scene.specs.Fits.{fitted, field_fitted}
use Rattle.eb_scene.specs.declared.edits.Raw.{Raw}
use Rattle.eb_scene.specs.declared.edits.RawField.{RawField}
use Rattle.eb_scene.specs.Projects.{Content, Numbered, Objects, numbered, objects_of, most_depth, IsAscending}
use Rattle.eb_scene.specs.Trees.{subtree}
use Rattle.eb_scene.specs.Tables.{with_numbered, without_numbered, changed}
use Rattle.eb_scene.specs.Edits.{edited, on_scene, object_added, object_removed, section_set, parent_set, component_put, component_removed, field_set, scene_added, scene_removed, asset_put, asset_removed, asset_field_set, fresh, marked, parented}
use Rattle.eb_scene.proofs.NumberFacts.{sorted_with_number}
use Rattle.eb_scene.proofs.Children.{keys_put, keys_changed, keys_same}
use Rattle.eb_scene.proofs.KeyFacts.{put_at, objects_there, objects_put, objects_put_apart}
use Rattle.eb_scene.proofs.LookUps.{equal, itself, found_put, found_put_apart, found_gone, found_gone_apart}
use Rattle.eb_scene.proofs.EditShapes.{refused, told_ok, InScene, in_scene, added_is, section_is, parent_is, removed_is}
use Rattle.eb_scene.proofs.AssetShapes.{made, valued, is_asset_full}
use Rattle.eb_scene.proofs.PartShapes.{ByPart, put_by_part, taken_by_part, valued_by_part, value_found}
use Rattle.eb_scene.proofs.Removing.{sorted_gone, sorted_without_all}

-- ---- one list

-- the numbers of these things ascend
abbrev pub Ascends : {X : Type 0} → Numbered X → Type 0
Ascends xs = IsStrictlySortedBy nat_cmp (keys_of xs)

module _ {X : Type 0} where
  put_ascends : (n : ℕ) (x : X) (xs : Numbered X) → Ascends xs → Ascends (with_numbered xs n x)
  put_ascends n x xs h = subst (IsStrictlySortedBy nat_cmp) (sym (keys_put n x xs)) (sorted_with_number n (keys_of xs) h)

  changed_ascends : (f : X → X) (xs : Numbered X) (n : ℕ) → Ascends xs → Ascends (changed f xs n)
  changed_ascends f xs n h = subst (IsStrictlySortedBy nat_cmp) (sym (keys_changed f xs n)) h

nothing_ascends : IsStrictlySortedBy nat_cmp []
unfolding IsStrictlySortedBy
nothing_ascends = tt

-- ---- scenes

pub empty_ascends : (types : Types) → IsAscending (record { schema = types; scenes = []; assets = [] })
empty_ascends types = record { scenes = nothing_ascends; objects = λ s. nothing_ascends; assets = nothing_ascends }

made_objects : (b : Bool) (g : Content) (s t : ℕ) → nat_eq t s ≡ b → IsAscending g → Ascends (objects_of (record g { scenes = with_numbered g.scenes s [] }) t)
made_objects true g s t same h =
    subst (λ r. Ascends (unwrap_or r [])) (sym (ap (numbered (with_numbered g.scenes s [])) (equal t s same) ∙ found_put s [] g.scenes)) nothing_ascends
made_objects false g s t apart h = subst (λ r. Ascends (unwrap_or r [])) (sym (found_put_apart s t [] g.scenes apart)) (h.objects t)

scene_made : (g : Content) (s : ℕ) → IsAscending g → IsAscending (record g { scenes = with_numbered g.scenes s [] })
scene_made g s h = record { scenes = put_ascends s [] g.scenes h.scenes; objects = λ t. made_objects (nat_eq t s) g s t refl h; assets = h.assets }

left_objects : (b : Bool) (g : Content) (s t : ℕ) → nat_eq t s ≡ b → IsAscending g → Ascends (objects_of (record g { scenes = without_numbered g.scenes s }) t)
left_objects true g s t same h =
    subst (λ r. Ascends (unwrap_or r [])) (sym (ap (numbered (without_numbered g.scenes s)) (equal t s same) ∙ found_gone s g.scenes h.scenes)) nothing_ascends
left_objects false g s t apart h = subst (λ r. Ascends (unwrap_or r [])) (sym (found_gone_apart s t g.scenes apart)) (h.objects t)

scene_gone : (g : Content) (s : ℕ) → IsAscending g → IsAscending (record g { scenes = without_numbered g.scenes s })
scene_gone g s h = record { scenes = sorted_gone s g.scenes h.scenes; objects = λ t. left_objects (nat_eq t s) g s t refl h; assets = h.assets }

put_objects : (b : Bool) (g : Content) (s t : ℕ) (es new : Objects) → nat_eq t s ≡ b → numbered g.scenes s ≡ Some es → IsAscending g → Ascends new → Ascends (objects_of (put_at g s new) t)
put_objects true g s t es new same found h ascends = subst Ascends (sym (objects_put g s t es new same found)) ascends
put_objects false g s t es new apart found h ascends = subst Ascends (sym (objects_put_apart g s t new apart)) (h.objects t)

put_scene : (g : Content) (s : ℕ) (es new : Objects) → numbered g.scenes s ≡ Some es → IsAscending g → Ascends new → IsAscending (put_at g s new)
put_scene g s es new found h ascends = record {
  scenes = subst (IsStrictlySortedBy nat_cmp) (sym (keys_same s g.scenes new)) h.scenes;
  objects = λ t. put_objects (nat_eq t s) g s t es new refl found h ascends;
  assets = h.assets;
}

module _ (g h : Content) (s : ℕ) (f : Objects → Result Objects EditFault) (order : IsAscending g) where
  -- where the new objects ascend if the old ones do
  within : (c : InScene g h s f) → (Ascends c.old → Ascends c.new) → IsAscending h
  within c keeps =
      let old : Ascends c.old = subst Ascends (objects_there g s s c.old (itself s) c.found) (order.objects s) in
      subst IsAscending (sym c.is) (put_scene g s c.old c.new c.found order (keeps old))

  by_part : (types : Types) (name : List ℕ) (n : ℕ) (c : InScene g h s f) → ByPart types name n c.old c.new → IsAscending h
  by_part types name n c b = within c (λ old. subst Ascends (sym b.is) (changed_ascends b.f c.old n old))

-- ---- assets

with_assets : (g : Content) (assets : Numbered (List Given)) → IsAscending g → Ascends assets → IsAscending (record g { assets = assets })
with_assets g assets h ascends = record { scenes = h.scenes; objects = h.objects; assets = ascends }

asset_made : (g h : Content) (n : ℕ) (raws : List RawField) → IsAscending g → asset_put g n raws ≡ Ok h → IsAscending h
asset_made g h n raws order is =
    let v = value_found (fitted g.schema.assets raws) (made g n) h is in
    let r = refused (is_asset_full g n) fault.AssetLimit _ h v.1 in
    let assets = with_numbered g.assets n v.0 in
    subst IsAscending (sym (told_ok (record g { assets = assets }) h r.1)) (with_assets g assets order (put_ascends n v.0 g.assets order.assets))

asset_gone : (g h : Content) (n : ℕ) → IsAscending g → asset_removed g n ≡ Ok h → IsAscending h
asset_gone g h n order is =
    let r = refused (not (is_some (numbered g.assets n))) fault.NoAsset _ h is in
    let assets = without_numbered g.assets n in
    subst IsAscending (sym (told_ok (record g { assets = assets }) h r.1)) (with_assets g assets order (sorted_gone n g.assets order.assets))

asset_valued : (g h : Content) (n : ℕ) (field : List ℕ) (raw : Raw) → IsAscending g → asset_field_set g n field raw ≡ Ok h → IsAscending h
asset_valued g h n field raw order is =
    let v = value_found (field_fitted g.schema.assets field raw) (valued g n) h is in
    let r = refused (not (is_some (numbered g.assets n))) fault.NoAsset _ h v.1 in
    let change = λ (values : List Given). slice_set values v.0.0 v.0.1 in
    let assets = changed change g.assets n in
    subst IsAscending (sym (told_ok (record g { assets = assets }) h r.1)) (with_assets g assets order (changed_ascends change g.assets n order.assets))

-- ---- all edits

pub edited_ascends : (g h : Content) (e : Edit) → IsAscending g → edited g e ≡ Ok h → IsAscending h
edited_ascends g h (edit.AddScene s) order is =
    let r = refused (is_some (numbered g.scenes s)) fault.SceneTaken _ h is in
    subst IsAscending (sym (told_ok (record g { scenes = with_numbered g.scenes s [] }) h r.1)) (scene_made g s order)
edited_ascends g h (edit.RemoveScene s) order is =
    let r = refused (not (is_some (numbered g.scenes s))) fault.NoScene _ h is in
    subst IsAscending (sym (told_ok (record g { scenes = without_numbered g.scenes s }) h r.1)) (scene_gone g s order)
edited_ascends g h (edit.AddObject s n parent mark) order is =
    let f = λ (es : Objects). object_added es n parent mark in
    let c = in_scene g h s f is in
    within g h s f order c (λ old. subst Ascends (sym (added_is c.old c.new n parent mark c.done).1) (put_ascends n (fresh n parent mark) c.old old))
edited_ascends g h (edit.RemoveObject s n) order is =
    let f = λ (es : Objects). object_removed es n in
    let c = in_scene g h s f is in
    within g h s f order c (λ old. subst Ascends (sym (removed_is c.old c.new n c.done)) (sorted_without_all (subtree most_depth c.old (n ∷ [])) c.old old))
edited_ascends g h (edit.SetParent s n parent) order is =
    let f = λ (es : Objects). parent_set es n parent in
    let c = in_scene g h s f is in
    within g h s f order c (λ old. subst Ascends (sym (parent_is c.old c.new n parent c.done)) (changed_ascends (parented parent) c.old n old))
edited_ascends g h (edit.SetSection s n mark) order is =
    let f = λ (es : Objects). section_set es n mark in
    let c = in_scene g h s f is in
    within g h s f order c (λ old. subst Ascends (sym (section_is c.old c.new n mark c.done)) (changed_ascends (marked mark) c.old n old))
edited_ascends g h (edit.PutComponent s n kind fields) order is =
    let f = λ (es : Objects). component_put g.schema es n kind fields in
    let c = in_scene g h s f is in
    by_part g h s f order g.schema kind n c (put_by_part g.schema c.old n kind fields c.new c.done)
edited_ascends g h (edit.RemoveComponent s n kind) order is =
    let f = λ (es : Objects). component_removed g.schema es n kind in
    let c = in_scene g h s f is in
    by_part g h s f order g.schema kind n c (taken_by_part g.schema c.old n kind c.new c.done)
edited_ascends g h (edit.SetField s n kind field value) order is =
    let f = λ (es : Objects). field_set g.schema es n kind field value in
    let c = in_scene g h s f is in
    by_part g h s f order g.schema kind n c (valued_by_part g.schema c.old n kind field value c.new c.done)
edited_ascends g h (edit.PutAsset n fields) order is = asset_made g h n fields order is
edited_ascends g h (edit.RemoveAsset n) order is = asset_gone g h n order is
edited_ascends g h (edit.SetAssetField n field value) order is = asset_valued g h n field value order is
