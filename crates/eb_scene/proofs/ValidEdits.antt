-- An edit makes a valid project of a valid one.
use Rattle.std.proofs.Common.{◌≡◌, ℕ, suc, ◌<◌, ◌≤◌, List, [], length, Bool, true, false, not, ◌&&◌, nat_le, is_some, Option, Some, None, Result, Ok, Err, refl, sym, ap, subst, arith}
use Rattle.std.specs.Prelude.{slice_set}
use Rattle.std.specs.Option.{unwrap_or}
use Rattle.std.specs.Map.{keys_of, set_value}
use Rattle.std.specs.BTreeMap.{is_at}
use Rattle.std.specs.List.{AllByRecursion}
use Rattle.std.specs.List.Sorted.{IsStrictlySortedBy}
use Rattle.std.specs.Ordering.{nat_cmp}
use Rattle.std.proofs.lemmas.Bool.Decides.{nat_tests}
use Rattle.std.proofs.lemmas.Map.{keys-set_value}
use Rattle.eb_schema.specs.Schemas.{Types}
use Rattle.eb_schema.proofs.SoundFacts.{unless}
use Rattle.eb_scene.specs.declared.objects.Given.{Given}
use Rattle.eb_scene.specs.declared.edits.Edit.{Edit}
use Rattle.eb_scene.specs.declared.edits.Edit.TheVariants as edit
use Rattle.eb_scene.specs.declared.edits.EditFault.{EditFault}
use Rattle.eb_scene.specs.declared.edits.EditFault.TheVariants as fault
use Rattle.eb_scene.specs.declared.edits.Raw.{Raw}
use Rattle.eb_scene.specs.declared.edits.RawField.{RawField}
use Rattle.eb_scene.specs.Fits.{fitted, field_fitted}
use Rattle.eb_scene.specs.Projects.{Content, IsAscending, Numbered, Objects, numbered, above, most_depth}
use Rattle.eb_scene.specs.Tables.{with_numbered, without_numbered, changed}
use Rattle.eb_scene.specs.Edits.{scene_added, scene_removed, put_scene, on_scene, on_scene_at, most_assets, object_added, object_removed, parent_set, section_set, component_put, component_removed, field_set, asset_put, asset_removed, asset_field_set, edited}
use Rattle.eb_scene.specs.Validity.{IsSceneNumber, IsNumber, Suit, IsScene, IsValid, IsEdit}
use Rattle.eb_scene.proofs.TreeFacts.{above_none}
use Rattle.eb_scene.proofs.Removing.{sorted_gone}
use Rattle.eb_scene.proofs.ValidTables.{all_put, all_gone, all_set, all_found, all_changed, order_put, order_changed, count_put, count_again, count_gone, count_changed}
use Rattle.eb_scene.proofs.ValidObjects.{ok_same, none_ordered, added, sectioned, moved, removed}
use Rattle.eb_scene.proofs.ValidParts.{fitted_suit, set_fitted}
use Rattle.eb_scene.proofs.ValidComponents.{so_step, put, taken, valued}

-- ---- scenes

above_empty : (k m : ℕ) → length (above (suc k) [] (Some m)) ≤ 1
unfolding above
above_empty k m = let none_ : length (above k [] None) ≡ 0 = ap length (above_none [] k) in omega (arith, none_)

pub empty_scene : (types : Types) → IsScene types []
empty_scene types =
    record { order = none_ordered; few = omega arith; objects = tt; parents = λ m. refl; depths = λ m. let one = above_empty most_depth m in omega (arith, one) }

module _ (g : Content) (valid : IsValid g) where
  abbrev SceneAt : ℕ × Objects → Type 0
  SceneAt s = IsSceneNumber s.0 × IsScene g.schema s.1

  abbrev AssetAt : ℕ × List Given → Type 0
  AssetAt a = IsNumber a.0 × Suit g.schema.assets a.1

  other_scenes : (scenes : Numbered Objects) → IsStrictlySortedBy nat_cmp (keys_of scenes) → AllByRecursion SceneAt scenes → IsValid (record g { scenes = scenes })
  other_scenes scenes order all =
      record { schema = valid.schema; scene_order = order; scenes = all; asset_order = valid.asset_order; few_assets = valid.few_assets; assets = valid.assets }

  other_assets : (assets : Numbered (List Given)) → IsStrictlySortedBy nat_cmp (keys_of assets) → length assets ≤ most_assets → AllByRecursion AssetAt assets → IsValid (record g { assets = assets })
  other_assets assets order few all =
      record { schema = valid.schema; scene_order = valid.scene_order; scenes = valid.scenes; asset_order = order; few_assets = few; assets = all }

  pub made_scene : (s : ℕ) → IsSceneNumber s → IsValid (record g { scenes = with_numbered g.scenes s [] })
  made_scene s range = other_scenes (with_numbered g.scenes s []) (order_put s [] g.scenes valid.scene_order) (all_put SceneAt s [] g.scenes (range, empty_scene g.schema) valid.scenes)

  scene_made : (s : ℕ) (h : Content) → IsSceneNumber s → scene_added g s ≡ Ok h → IsValid h
  scene_made s h range done = subst IsValid (ok_same _ h (unless (is_some (numbered g.scenes s)) fault.SceneTaken _ h done).1) (made_scene s range)

  pub gone_scene : (s : ℕ) → IsValid (record g { scenes = without_numbered g.scenes s })
  gone_scene s = other_scenes (without_numbered g.scenes s) (sorted_gone s g.scenes valid.scene_order) (all_gone SceneAt s g.scenes valid.scenes)

  scene_gone : (s : ℕ) (h : Content) → scene_removed g s ≡ Ok h → IsValid h
  scene_gone s h done = subst IsValid (ok_same _ h (unless (not (is_some (numbered g.scenes s))) fault.NoScene _ h done).1) (gone_scene s)

  abbrev pub Keeps : (Objects → Result Objects EditFault) → Type 0
  Keeps f = (es fs : Objects) → IsScene g.schema es → f es ≡ Ok fs → IsScene g.schema fs

  set_scene : (s : ℕ) (es fs : Objects) → numbered g.scenes s ≡ Some es → IsScene g.schema fs → IsValid (record g { scenes = set_value (is_at (nat_cmp s)) g.scenes fs })
  set_scene s es fs found scene =
      other_scenes (set_value (is_at (nat_cmp s)) g.scenes fs)
      (subst (IsStrictlySortedBy nat_cmp) (sym (keys-set_value (is_at (nat_cmp s)) g.scenes fs)) valid.scene_order)
      (all_set SceneAt s fs g.scenes ((all_found SceneAt s es g.scenes valid.scenes found).0, scene) valid.scenes)

  put_where : (s : ℕ) (es : Objects) (r : Result Objects EditFault) (h : Content) → numbered g.scenes s ≡ Some es → ((fs : Objects) → r ≡ Ok fs → IsScene g.schema fs) → put_scene g s r ≡ Ok h → IsValid h
  put_where s es (Err e) h found kept done = cc
  put_where s es (Ok fs) h found kept done = subst IsValid (ok_same _ h done) (set_scene s es fs found (kept fs refl))

  on_where : (s : ℕ) (f : Objects → Result Objects EditFault) (r : Option Objects) (h : Content) → numbered g.scenes s ≡ r → Keeps f → on_scene_at g s f r ≡ Ok h → IsValid h
  on_where s f None h is kept done = cc
  on_where s f (Some es) h is kept done = put_where s es (f es) h is (λ fs e. kept es fs (all_found SceneAt s es g.scenes valid.scenes is).1 e) done

  pub on_valid : (s : ℕ) (f : Objects → Result Objects EditFault) (h : Content) → Keeps f → on_scene g s f ≡ Ok h → IsValid h
  on_valid s f h kept done = on_where s f (numbered g.scenes s) h refl kept done

  -- ---- assets

  put_asset : (n : ℕ) (vs : List Given) → IsNumber n → Suit g.schema.assets vs → length (with_numbered g.assets n vs) ≤ most_assets → IsValid (record g { assets = with_numbered g.assets n vs })
  put_asset n vs range suit few = other_assets (with_numbered g.assets n vs) (order_put n vs g.assets valid.asset_order) few (all_put AssetAt n vs g.assets (range, suit) valid.assets)

  pub new_asset : (n : ℕ) (vs : List Given) → IsNumber n → Suit g.schema.assets vs → length g.assets < most_assets → IsValid (record g { assets = with_numbered g.assets n vs })
  new_asset n vs range suit room = put_asset n vs range suit (let more = count_put n vs g.assets in omega (arith, more, room))

  pub old_asset : (n : ℕ) (vs : List Given) → IsNumber n → Suit g.schema.assets vs → is_some (numbered g.assets n) ≡ true → IsValid (record g { assets = with_numbered g.assets n vs })
  old_asset n vs range suit there = put_asset n vs range suit (let same = count_again n vs g.assets valid.asset_order there in let few = valid.few_assets in omega (arith, same, few))

  room_where : (b : Bool) (n : ℕ) (vs : List Given) → is_some (numbered g.assets n) ≡ b → (not b && nat_le most_assets (length g.assets)) ≡ false → IsNumber n → Suit g.schema.assets vs
      → IsValid (record g { assets = with_numbered g.assets n vs })
  room_where true n vs is full range suit = old_asset n vs range suit is
  room_where false n vs is full range suit = new_asset n vs range suit (grind (arith, nat_tests, full))

  asset_made : (n : ℕ) (raws : List RawField) (h : Content) → IsNumber n → asset_put g n raws ≡ Ok h → IsValid h
  asset_made n raws h range done =
      let v = so_step (fitted g.schema.assets raws) _ h done in
      let a = unless (not (is_some (numbered g.assets n)) && nat_le most_assets (length g.assets)) fault.AssetLimit _ h v.2 in
      subst IsValid (ok_same _ h a.1) (room_where (is_some (numbered g.assets n)) n v.0 refl a.0 range (fitted_suit g.schema.assets raws v.0 v.1))

  pub gone_asset : (n : ℕ) → IsValid (record g { assets = without_numbered g.assets n })
  gone_asset n =
      let fewer = count_gone n g.assets in
      let few = valid.few_assets in
      other_assets (without_numbered g.assets n) (sorted_gone n g.assets valid.asset_order) (omega (arith, fewer, few)) (all_gone AssetAt n g.assets valid.assets)

  asset_gone : (n : ℕ) (h : Content) → asset_removed g n ≡ Ok h → IsValid h
  asset_gone n h done = subst IsValid (ok_same _ h (unless (not (is_some (numbered g.assets n))) fault.NoAsset _ h done).1) (gone_asset n)

  pub valued_asset : (n : ℕ) (field : List ℕ) (raw : Raw) (r : ℕ × Given) → field_fitted g.schema.assets field raw ≡ Ok r → IsValid (record g { assets = changed (λ values. slice_set values r.0 r.1) g.assets n })
  valued_asset n field raw r fits =
      let f : (List Given → List Given) = (λ values. slice_set values r.0 r.1) in
      other_assets (changed f g.assets n) (order_changed f n g.assets valid.asset_order) (subst (λ k. k ≤ most_assets) (sym (count_changed f n g.assets)) valid.few_assets)
      (all_changed AssetAt f n g.assets (λ vs found old. (old.0, set_fitted g.schema.assets field raw r fits vs old.1)) valid.assets)

  asset_valued : (n : ℕ) (field : List ℕ) (raw : Raw) (h : Content) → asset_field_set g n field raw ≡ Ok h → IsValid h
  asset_valued n field raw h done =
      let r = so_step (field_fitted g.schema.assets field raw) _ h done in
      let a = unless (not (is_some (numbered g.assets n))) fault.NoAsset _ h r.2 in
      subst IsValid (ok_same _ h a.1) (valued_asset n field raw r.0 r.1)

-- ---- all edits

pub valid_edited : (g h : Content) (e : Edit) → IsValid g → IsEdit e → edited g e ≡ Ok h → IsValid h
valid_edited g h (edit.AddScene s) valid fits done = scene_made g valid s h fits done
valid_edited g h (edit.RemoveScene s) valid fits done = scene_gone g valid s h done
valid_edited g h (edit.AddObject s n parent mark) valid fits done = on_valid g valid s (λ es. object_added es n parent mark) h (λ es fs scene is. added g.schema es n parent mark fs scene fits.1 is) done
valid_edited g h (edit.RemoveObject s n) valid fits done = on_valid g valid s (λ es. object_removed es n) h (λ es fs scene is. removed g.schema es n fs scene is) done
valid_edited g h (edit.SetParent s n parent) valid fits done = on_valid g valid s (λ es. parent_set es n parent) h (λ es fs scene is. moved g.schema es n parent fs scene is) done
valid_edited g h (edit.SetSection s n mark) valid fits done = on_valid g valid s (λ es. section_set es n mark) h (λ es fs scene is. sectioned g.schema es n mark fs scene is) done
valid_edited g h (edit.PutComponent s n kind fields) valid fits done = on_valid g valid s (λ es. component_put g.schema es n kind fields) h (λ es fs scene is. put g.schema es n kind fields fs scene is) done
valid_edited g h (edit.RemoveComponent s n kind) valid fits done = on_valid g valid s (λ es. component_removed g.schema es n kind) h (λ es fs scene is. taken g.schema es n kind fs scene is) done
valid_edited g h (edit.SetField s n kind field value) valid fits done = on_valid g valid s (λ es. field_set g.schema es n kind field value) h (λ es fs scene is. valued g.schema es n kind field value fs scene is) done
valid_edited g h (edit.PutAsset n fields) valid fits done = asset_made g valid n fields h fits done
valid_edited g h (edit.RemoveAsset n) valid fits done = asset_gone g valid n h done
valid_edited g h (edit.SetAssetField n field value) valid fits done = asset_valued g valid n field value h done

-- ---- order

objects_where : (g : Content) (s : ℕ) (r : Option Objects) → IsValid g → numbered g.scenes s ≡ r → IsStrictlySortedBy nat_cmp (keys_of (unwrap_or r []))
objects_where g s None valid is = none_ordered
objects_where g s (Some es) valid is = (all_found (SceneAt g valid) s es g.scenes valid.scenes is).1.order

pub valid_ascends : (g : Content) → IsValid g → IsAscending g
valid_ascends g valid = record { scenes = valid.scene_order; objects = λ s. objects_where g s (numbered g.scenes s) valid refl; assets = valid.asset_order }
