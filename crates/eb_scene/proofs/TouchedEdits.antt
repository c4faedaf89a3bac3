-- Each edit changes the answers of the keys that it touches alone.
use Rattle.std.proofs.Common.{◌≡◌, ℕ, List, [], ◌∷◌, Bool, true, false, not, cond, nat_eq, Option, Some, None, is_some, slice_set, Result, Ok, Err, refl, sym, ap, subst, ◌∙◌, true≢false, nat_cmp}
use Rattle.std.specs.Option.{unwrap_or}
use Rattle.std.specs.Map.{keys_of}
use Rattle.std.specs.List.Sorted.{IsStrictlySortedBy}
use Rattle.eb_schema.specs.declared.kinds.Authoring.{Authoring}
use Rattle.eb_schema.specs.Schemas.{Types}
use Rattle.eb_scene.specs.declared.keys.Key.{Key}
use Rattle.eb_scene.specs.declared.keys.Key.TheVariants as key
use Rattle.eb_scene.specs.declared.objects.Given.{Given}
use Rattle.eb_scene.specs.declared.edits.Edit.{Edit}
use Rattle.eb_scene.specs.declared.edits.Edit.TheVariants as edit
use Rattle.eb_scene.specs.declared.edits.EditFault.{EditFault}
use Rattle.eb_scene.specs.declared.edits.EditFault.TheVariants as fault
use Rattle.eb_scene.specs.Fits.{fitted, field_fitted}
use Rattle.eb_scene.specs.declared.edits.Raw.{Raw}
use Rattle.eb_scene.specs.declared.edits.RawField.{RawField}
use Rattle.eb_scene.specs.Projects.{Content, Objects, numbered, objects_of, most_depth, IsAscending}
use Rattle.eb_scene.specs.Tables.{with_numbered, without_numbered, changed}
use Rattle.eb_scene.specs.Edits.{edited, on_scene, and_so, object_added, object_removed, section_set, parent_set, component_put, component_removed, field_set, scene_added, scene_removed, asset_put, asset_removed, asset_field_set, type_named}
use Rattle.eb_scene.specs.Touched.{touched, children_key, part_key, removed_keys, moved_keys}
use Rattle.eb_scene.specs.Answers.{answer, has_key, has_scene_of, has_object_of, Values}
use Rattle.eb_scene.proofs.Children.{either}
use Rattle.eb_scene.proofs.KeyFacts.{told, scene_of, answers_told, Spares, put_at, spared, objects_there}
use Rattle.eb_scene.proofs.LookUps.{equal, itself, found_put, found_put_apart, found_gone, found_gone_apart, found_changed_apart}
use Rattle.eb_scene.proofs.EditShapes.{refused, told_ok, nothing, InScene, in_scene, added_is, section_is, parent_is, removed_is}
use Rattle.eb_scene.proofs.AssetShapes.{made, valued, is_asset_full}
use Rattle.eb_scene.proofs.PartShapes.{ByPart, put_by_part, taken_by_part, valued_by_part, value_found}
use Rattle.eb_scene.proofs.TouchedParts.{spares_part, spares_mark}
use Rattle.eb_scene.proofs.TouchedPlaces.{spares_added, spares_moved}
use Rattle.eb_scene.proofs.TouchedRemoval.{spares_removed}

-- after an edit to h, a key that isn't among these answers as before
abbrev pub Holds : Content → Content → List Key → Key → Type 0
Holds g h keys k = has_scene_of h k ≡ true → has_object_of g k ≡ true → has_key keys k ≡ false → answer h k ≡ answer g k

-- ---- scenes

empty_there : (b : Bool) (g : Content) (s t : ℕ) → nat_eq t s ≡ b → numbered g.scenes s ≡ None → objects_of (record g { scenes = with_numbered g.scenes s [] }) t ≡ objects_of g t
empty_there true g s t same absent =
    ap (λ r. unwrap_or r []) (ap (numbered (with_numbered g.scenes s [])) (equal t s same) ∙ found_put s [] g.scenes)
    ∙ sym (ap (λ r. unwrap_or r []) (ap (numbered g.scenes) (equal t s same) ∙ absent))
empty_there false g s t apart absent = ap (λ r. unwrap_or r []) (found_put_apart s t [] g.scenes apart)

scene_made : (g h : Content) (s : ℕ) (k : Key) → scene_added g s ≡ Ok h → answer h k ≡ answer g k
scene_made g h s k is =
    let r = refused (is_some (numbered g.scenes s)) fault.SceneTaken _ h is in
    let shape = told_ok (record g { scenes = with_numbered g.scenes s [] }) h r.1 in
    subst (λ c. answer c k ≡ answer g k) (sym shape)
    (answers_told g (record g { scenes = with_numbered g.scenes s [] }) k refl
    (ap (λ os. told os k) (empty_there (nat_eq (scene_of k) s) g s (scene_of k) refl (nothing (numbered g.scenes s) r.0))))

-- the scene of a key is there
kept_scene : (g : Content) (s : ℕ) (k : Key) (b : Bool) → nat_eq (scene_of k) s ≡ b → IsStrictlySortedBy nat_cmp (keys_of g.scenes)
    → has_scene_of (record g { scenes = without_numbered g.scenes s }) k ≡ true → answer (record g { scenes = without_numbered g.scenes s }) k ≡ answer g k
kept_scene g s k false apart sorted there =
    answers_told g (record g { scenes = without_numbered g.scenes s }) k refl (ap (λ r. told (unwrap_or r []) k) (found_gone_apart s (scene_of k) g.scenes apart))
kept_scene g s (key.Asset n) true same sorted there = refl
kept_scene g s (key.Comp t n kind) true same sorted there = absurd (true≢false (sym there ∙ ap is_some (ap (numbered (without_numbered g.scenes s)) (equal t s same) ∙ found_gone s g.scenes sorted)))
kept_scene g s (key.Parent t n) true same sorted there = absurd (true≢false (sym there ∙ ap is_some (ap (numbered (without_numbered g.scenes s)) (equal t s same) ∙ found_gone s g.scenes sorted)))
kept_scene g s (key.Children t n) true same sorted there = absurd (true≢false (sym there ∙ ap is_some (ap (numbered (without_numbered g.scenes s)) (equal t s same) ∙ found_gone s g.scenes sorted)))
kept_scene g s (key.Exists t n) true same sorted there = absurd (true≢false (sym there ∙ ap is_some (ap (numbered (without_numbered g.scenes s)) (equal t s same) ∙ found_gone s g.scenes sorted)))

scene_gone : (g h : Content) (s : ℕ) (k : Key) → IsAscending g → scene_removed g s ≡ Ok h → has_scene_of h k ≡ true → answer h k ≡ answer g k
scene_gone g h s k order is there =
    let r = refused (not (is_some (numbered g.scenes s))) fault.NoScene _ h is in
    let shape = told_ok (record g { scenes = without_numbered g.scenes s }) h r.1 in
    subst (λ c. answer c k ≡ answer g k) (sym shape) (kept_scene g s k (nat_eq (scene_of k) s) refl order.scenes (subst (λ c. has_scene_of c k ≡ true) shape there))

-- ---- assets

assets_alike : (g h : Content) (n : ℕ) (k : Key) → h.scenes ≡ g.scenes → ((m : ℕ) → nat_eq m n ≡ false → numbered h.assets m ≡ numbered g.assets m) → has_key (key.Asset n ∷ []) k ≡ false → answer h k ≡ answer g k
assets_alike g h n (key.Comp s m kind) scenes apart free = ap (λ ss. answer (record g { scenes = ss }) (key.Comp s m kind)) scenes
assets_alike g h n (key.Parent s m) scenes apart free = ap (λ ss. answer (record g { scenes = ss }) (key.Parent s m)) scenes
assets_alike g h n (key.Children s m) scenes apart free = ap (λ ss. answer (record g { scenes = ss }) (key.Children s m)) scenes
assets_alike g h n (key.Exists s m) scenes apart free = ap (λ ss. answer (record g { scenes = ss }) (key.Exists s m)) scenes
assets_alike g h n (key.Asset m) scenes apart free = ap Values (apart m (either (nat_eq m n) false free).0)

asset_made : (g h : Content) (n : ℕ) (k : Key) (raws : List RawField) → asset_put g n raws ≡ Ok h → has_key (key.Asset n ∷ []) k ≡ false → answer h k ≡ answer g k
asset_made g h n k raws is free =
    let v = value_found (fitted g.schema.assets raws) (made g n) h is in
    let r = refused (is_asset_full g n) fault.AssetLimit _ h v.1 in
    let new = record g { assets = with_numbered g.assets n v.0 } in
    subst (λ c. answer c k ≡ answer g k) (sym (told_ok new h r.1)) (assets_alike g new n k refl (λ m apart. found_put_apart n m v.0 g.assets apart) free)

asset_gone : (g h : Content) (n : ℕ) (k : Key) → asset_removed g n ≡ Ok h → has_key (key.Asset n ∷ []) k ≡ false → answer h k ≡ answer g k
asset_gone g h n k is free =
    let r = refused (not (is_some (numbered g.assets n))) fault.NoAsset _ h is in
    let new = record g { assets = without_numbered g.assets n } in
    subst (λ c. answer c k ≡ answer g k) (sym (told_ok new h r.1)) (assets_alike g new n k refl (λ m apart. found_gone_apart n m g.assets apart) free)

asset_valued : (g h : Content) (n : ℕ) (k : Key) (field : List ℕ) (raw : Raw) → asset_field_set g n field raw ≡ Ok h → has_key (key.Asset n ∷ []) k ≡ false → answer h k ≡ answer g k
asset_valued g h n k field raw is free =
    let v = value_found (field_fitted g.schema.assets field raw) (valued g n) h is in
    let r = refused (not (is_some (numbered g.assets n))) fault.NoAsset _ h v.1 in
    let change = λ (values : List Given). slice_set values v.0.0 v.0.1 in
    let new = record g { assets = changed change g.assets n } in
    subst (λ c. answer c k ≡ answer g k) (sym (told_ok new h r.1)) (assets_alike g new n k refl (λ m apart. found_changed_apart change g.assets n m apart) free)

-- ---- edits in a scene

module _ (g h : Content) (s : ℕ) (f : Objects → Result Objects EditFault) (k : Key) where
  within : (c : InScene g h s f) (keys : List Key) → Spares s c.old c.new keys → has_object_of g k ≡ true → has_key keys k ≡ false → answer h k ≡ answer g k
  within c keys spares object free = subst (λ x. answer x k ≡ answer g k) (sym c.is) (spared g s c.old c.new keys k c.found spares object free)

  ordered : (c : InScene g h s f) → IsAscending g → IsStrictlySortedBy nat_cmp (keys_of c.old)
  ordered c order = subst (λ es. IsStrictlySortedBy nat_cmp (keys_of es)) (objects_there g s s c.old (itself s) c.found) (order.objects s)

  by_part : (c : InScene g h s f) (n : ℕ) (name : List ℕ) → ByPart g.schema name n c.old c.new → has_object_of g k ≡ true → has_key (part_key s n (type_named g.schema name)) k ≡ false → answer h k ≡ answer g k
  by_part c n name b object free =
      let keys = key.Comp s n b.a.number ∷ [] in
      within c keys (subst (λ es. Spares s c.old es keys) (sym b.is) (spares_part s n b.a.number b.f c.old b.keeps b.changes)) object
      (subst (λ r. has_key (part_key s n r) k ≡ false) b.named free)

pub spares_all : (g h : Content) (e : Edit) (k : Key) → IsAscending g → edited g e ≡ Ok h → Holds g h (touched g e) k
spares_all g h (edit.AddScene s) k order is scene object free = scene_made g h s k is
spares_all g h (edit.RemoveScene s) k order is scene object free = scene_gone g h s k order is scene
spares_all g h (edit.AddObject s n parent mark) k order is scene object free =
    let f = λ (es : Objects). object_added es n parent mark in
    let c = in_scene g h s f is in
    let a = added_is c.old c.new n parent mark c.done in
    within g h s f k c (key.Exists s n ∷ children_key s parent)
    (subst (λ es. Spares s c.old es (key.Exists s n ∷ children_key s parent)) (sym a.1) (spares_added s n parent mark c.old (ordered g h s f k c order) a.0)) object free
spares_all g h (edit.RemoveObject s n) k order is scene object free =
    let f = λ (es : Objects). object_removed es n in
    let c = in_scene g h s f is in
    let keys = removed_keys s n (Some c.old) in
    within g h s f k c keys
    (subst (λ es. Spares s c.old es keys) (sym (removed_is c.old c.new n c.done)) (spares_removed s n most_depth c.old (ordered g h s f k c order))) object
    (subst (λ r. has_key (removed_keys s n r) k ≡ false) c.found free)
spares_all g h (edit.SetParent s n parent) k order is scene object free =
    let f = λ (es : Objects). parent_set es n parent in
    let c = in_scene g h s f is in
    let keys = moved_keys s n parent (Some c.old) in
    within g h s f k c keys
    (subst (λ es. Spares s c.old es keys) (sym (parent_is c.old c.new n parent c.done)) (spares_moved s n parent c.old (ordered g h s f k c order))) object
    (subst (λ r. has_key (moved_keys s n parent r) k ≡ false) c.found free)
spares_all g h (edit.SetSection s n mark) k order is scene object free =
    let f = λ (es : Objects). section_set es n mark in
    let c = in_scene g h s f is in
    within g h s f k c [] (subst (λ es. Spares s c.old es []) (sym (section_is c.old c.new n mark c.done)) (spares_mark s n mark c.old)) object free
spares_all g h (edit.PutComponent s n kind fields) k order is scene object free =
    let f = λ (es : Objects). component_put g.schema es n kind fields in
    let c = in_scene g h s f is in
    by_part g h s f k c n kind (put_by_part g.schema c.old n kind fields c.new c.done) object free
spares_all g h (edit.RemoveComponent s n kind) k order is scene object free =
    let f = λ (es : Objects). component_removed g.schema es n kind in
    let c = in_scene g h s f is in
    by_part g h s f k c n kind (taken_by_part g.schema c.old n kind c.new c.done) object free
spares_all g h (edit.SetField s n kind field value) k order is scene object free =
    let f = λ (es : Objects). field_set g.schema es n kind field value in
    let c = in_scene g h s f is in
    by_part g h s f k c n kind (valued_by_part g.schema c.old n kind field value c.new c.done) object free
spares_all g h (edit.PutAsset n fields) k order is scene object free = asset_made g h n k fields is free
spares_all g h (edit.RemoveAsset n) k order is scene object free = asset_gone g h n k is free
spares_all g h (edit.SetAssetField n field value) k order is scene object free = asset_valued g h n k field value is free
