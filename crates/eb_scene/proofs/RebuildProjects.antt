-- The edits of a valid project's document make it of the schema alone.
use Rattle.std.proofs.Common.{◌≡◌, ℕ, suc, ◌+◌, ◌<◌, ◌≤◌, inl, List, [], ◌∷◌, ◌++◌, length, map, Bool, true, false, cond, not, ◌&&◌, nat_le, is_some, Option, Some, None, Result, Ok, Err, refl, sym, ap, subst, ◌∙◌, append_assoc, append-nil, length-append, arith, if◌then◌else◌}
use Rattle.std.specs.Prelude.{option_and_then, flat_map}
use Rattle.std.specs.Map.{keys_of}
use Rattle.std.specs.BTreeMap.{is_at}
use Rattle.std.specs.List.{AllByRecursion}
use Rattle.std.specs.List.Sorted.{IsStrictlySortedBy}
use Rattle.std.specs.Ordering.{nat_cmp}
use Rattle.std.proofs.lemmas.Bool.Decides.{nat_tests}
use Rattle.eb_schema.specs.Schemas.{Types}
use Rattle.eb_schema.specs.SoundSchemas.{IsSchema}
use Rattle.eb_scene.specs.declared.objects.Object.{Object}
use Rattle.eb_scene.specs.declared.objects.Given.{Given}
use Rattle.eb_scene.specs.declared.edits.Edit.{Edit}
use Rattle.eb_scene.specs.declared.edits.Edit.TheVariants as edit
use Rattle.eb_scene.specs.declared.edits.EditFault.{EditFault}
use Rattle.eb_scene.specs.declared.edits.EditFault.TheVariants as fault
use Rattle.eb_scene.specs.Projects.{Content, Numbered, Objects, numbered, parent_at}
use Rattle.eb_scene.specs.Tables.{with_numbered}
use Rattle.eb_scene.specs.Edits.{is_past, most_objects, most_assets, and_so, asset_put, scene_added}
use Rattle.eb_scene.specs.Validity.{IsNumber, IsSceneNumber, Suit, IsObject, IsScene, IsValid}
use Rattle.eb_scene.specs.Rebuilding.{all_edited, emptied, written_fields, object_edits, parent_edits, component_edits, scene_edits, edits_of}
use Rattle.eb_scene.proofs.ValidTables.{each_numbered}
use Rattle.eb_scene.proofs.RebuildSteps.{Steps, steps_then, steps_to, steps_lead, IsPast, past_front, absent_past, put_past}
use Rattle.eb_scene.proofs.RebuildValues.{written_back}
use Rattle.eb_scene.proofs.RebuildObjects.{skip, bare, hung, at, objects_made, parents_set}
use Rattle.eb_scene.proofs.RebuildComponents.{components_put}

all_by : {X : Type 0} {P Q : X → Type 0} → ((x : X) → P x → Q x) → (xs : List X) → AllByRecursion P xs → AllByRecursion Q xs
all_by f [] all = tt
all_by f (x ∷ xs) all = (f x all.0, all_by f xs all.1)

-- ---- objects of an ascending list

keys_bare : (es : Objects) → keys_of (map bare es) ≡ keys_of es
keys_bare [] = refl
keys_bare (e ∷ es) = ap (λ ks. e.0 ∷ ks) (keys_bare es)

count_bare : (es : Objects) → length (map bare es) ≡ length es
count_bare [] = refl
count_bare (e ∷ es) = ap suc (count_bare es)

bare_where : (b : Bool) (e : ℕ × Object) (r : Option Object) → option_and_then (λ o. o.parent) r ≡ None → option_and_then (λ o. o.parent) (cond b (Some (bare e).1) r) ≡ None
bare_where true e r later = refl
bare_where false e r later = later

bare_parent : (es : Objects) (m : ℕ) → parent_at (map bare es) m ≡ None
bare_parent [] m = refl
bare_parent (e ∷ es) m = bare_where (is_at (nat_cmp m) e.0) e (numbered (map bare es) m) (bare_parent es m)

module _ (types : Types) (sound : IsSchema types) where
  -- ---- scenes

  module _ (assets : Numbered (List Given)) where
    abbrev with_scenes : Numbered Objects → Content
    with_scenes scenes = record { schema = types; scenes = scenes; assets = assets }

    begun : (done : Numbered Objects) (s : ℕ) → IsPast s done → scene_added (with_scenes done) s ≡ Ok (with_scenes (done ++ (s, []) ∷ []))
    begun done s behind = skip (is_some (numbered done s)) fault.SceneTaken _ _ (ap is_some (absent_past s done behind)) (ap (λ scenes. Ok (with_scenes scenes)) (put_past s done [] behind))

    scene_built : (done : Numbered Objects) (s : ℕ) (es : Objects) → IsPast s done → IsScene types es → Steps (with_scenes done) (scene_edits types (s, es)) (with_scenes (done ++ (s, es) ∷ []))
    scene_built done s es behind scene =
        let here : (Objects → Content) = at types assets done s behind in
        let order : IsStrictlySortedBy nat_cmp (keys_of (map bare es)) = subst (IsStrictlySortedBy nat_cmp) (sym (keys_bare es)) scene.order in
        let few : length (map bare es) ≤ most_objects = subst (λ k. k ≤ most_objects) (sym (count_bare es)) scene.few in
        let marks : AllByRecursion (λ e. is_past e.1.mark ≡ false) es = all_by (λ (e : ℕ × Object) (o : IsObject types e.0 e.1). o.mark) es scene.objects in
        let overs : AllByRecursion (λ e. parent_at es e.0 ≡ e.1.parent) es = all_by (λ (e : ℕ × Object) (is : numbered es e.0 ≡ Some e.1). ap (option_and_then (λ o. o.parent)) is) es (each_numbered es scene.order) in (
          here [],
          begun done s behind,
          steps_then (here []) (here (map bare es)) (here es) (object_edits s es) (parent_edits s es ++ component_edits types s es)
              (objects_made types assets done s behind [] es order few marks)
              (steps_then (here (map bare es)) (here (map hung es)) (here es) (parent_edits s es) (component_edits types s es)
              (parents_set types assets done s behind es scene [] es overs (keys_bare es, λ m. inl (bare_parent es m)))
              (components_put types sound assets done s behind [] es scene.order scene.objects)),
        )

    scenes_built : (done rest : Numbered Objects) → IsStrictlySortedBy nat_cmp (keys_of (done ++ rest)) → AllByRecursion (λ s. IsSceneNumber s.0 × IsScene types s.1) rest
        → Steps (with_scenes done) (flat_map (scene_edits types) rest) (with_scenes (done ++ rest))
    scenes_built done [] sorted all = ap with_scenes (sym (append-nil done))
    scenes_built done (s ∷ rest) sorted all =
        let next : Numbered Objects = done ++ s ∷ [] in
        let whole : next ++ rest ≡ done ++ s ∷ rest = append_assoc done (s ∷ []) rest in
        let later = scenes_built next rest (subst (λ ss. IsStrictlySortedBy nat_cmp (keys_of ss)) (sym whole) sorted) all.1 in
        steps_then (with_scenes done) (with_scenes next) (with_scenes (done ++ s ∷ rest)) (scene_edits types s) (flat_map (scene_edits types) rest)
        (scene_built done s.0 s.1 (past_front done s.0 s.1 rest sorted) all.0.1)
        (steps_to (with_scenes next) (with_scenes (next ++ rest)) (with_scenes (done ++ s ∷ rest)) (flat_map (scene_edits types) rest) (ap with_scenes whole) later)

  -- ---- assets

  abbrev with_assets : Numbered (List Given) → Content
  with_assets assets = record { schema = types; scenes = []; assets = assets }

  abbrev put_values : Numbered (List Given) → ℕ → List Given → Result Content EditFault
  put_values done n values = if not (is_some (numbered done n)) && nat_le most_assets (length done) then Err fault.AssetLimit else Ok (with_assets (with_numbered done n values))

  asset_step : (done : Numbered (List Given)) (n : ℕ) (values : List Given) → IsPast n done → length done < most_assets → Suit types.assets values
      → asset_put (with_assets done) n (written_fields types.assets values) ≡ Ok (with_assets (done ++ (n, values) ∷ []))
  asset_step done n values past room suit =
      let free : nat_le most_assets (length done) ≡ false = grind (arith, nat_tests) in
      let both : (not (is_some (numbered done n)) && nat_le most_assets (length done)) ≡ false = ap (λ r. not (is_some r) && nat_le most_assets (length done)) (absent_past n done past) ∙ free in
      ap (λ r. and_so r (put_values done n)) (written_back types.assets values sound.assets.names suit)
      ∙ ap (λ b. if b then Err fault.AssetLimit else Ok (with_assets (with_numbered done n values))) both
      ∙ ap (λ assets. Ok (with_assets assets)) (put_past n done values past)

  abbrev put_edit : ℕ × List Given → Edit
  put_edit a = edit.PutAsset a.0 (written_fields types.assets a.1)

  assets_put : (done rest : Numbered (List Given)) → IsStrictlySortedBy nat_cmp (keys_of (done ++ rest)) → length (done ++ rest) ≤ most_assets → AllByRecursion (λ a. IsNumber a.0 × Suit types.assets a.1) rest
      → Steps (with_assets done) (map put_edit rest) (with_assets (done ++ rest))
  assets_put done [] sorted few all = ap with_assets (sym (append-nil done))
  assets_put done (a ∷ rest) sorted few all =
      let next : Numbered (List Given) = done ++ a ∷ [] in
      let whole : next ++ rest ≡ done ++ a ∷ rest = append_assoc done (a ∷ []) rest in
      let count : length (done ++ a ∷ rest) ≡ length done + length (a ∷ rest) = length-append done (a ∷ rest) in
      let room : length done < most_assets = omega (arith, count, few) in
      let later = assets_put next rest (subst (λ es. IsStrictlySortedBy nat_cmp (keys_of es)) (sym whole) sorted) (subst (λ es. length es ≤ most_assets) (sym whole) few) all.1 in (
        with_assets next,
        asset_step done a.0 a.1 (past_front done a.0 a.1 rest sorted) room all.0.1,
        steps_to (with_assets next) (with_assets (next ++ rest)) (with_assets (done ++ a ∷ rest)) (map put_edit rest) (ap with_assets whole) later,
      )

-- ---- the project

pub rebuilt : (g : Content) → IsValid g → all_edited 0 (emptied g) (edits_of g) ≡ Ok g
rebuilt g valid =
    steps_lead 0 (emptied g) g (edits_of g)
    (steps_then (emptied g) (record { schema = g.schema; scenes = []; assets = g.assets }) g (map (put_edit g.schema valid.schema) g.assets) (flat_map (scene_edits g.schema) g.scenes)
    (assets_put g.schema valid.schema [] g.assets valid.asset_order valid.few_assets valid.assets)
    (scenes_built g.schema valid.schema g.assets [] g.scenes valid.scene_order valid.scenes))
