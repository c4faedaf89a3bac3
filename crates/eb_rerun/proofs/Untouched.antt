-- An object that an edit doesn't come near has the runs that it had.
use Rattle.std.proofs.Common.{◌≡◌, ℕ, List, [], ◌∷◌, map, Bool, true, false, cond, ◌&&◌, ◌||◌, not, nat_eq, ◌==◌, Option, Some, None, option_map, is_some, slice_set, Result, Ok, refl, sym, ap, subst, ◌∙◌, true≢false}
use Rattle.std.specs.List.{list_any}
use Rattle.std.specs.Map.{keys_of}
use Rattle.std.specs.Option.{option_map_or, unwrap_or}
use Rattle.eb_scene.specs.declared.edits.Edit.{Edit}
use Rattle.eb_scene.specs.declared.edits.Edit.TheVariants as edit
use Rattle.eb_scene.specs.declared.edits.EditFault.{EditFault}
use Rattle.eb_scene.specs.declared.edits.EditFault.TheVariants as fault
use Rattle.eb_scene.specs.declared.edits.Raw.{Raw}
use Rattle.eb_scene.specs.declared.edits.RawField.{RawField}
use Rattle.eb_scene.specs.declared.keys.Key.{Key}
use Rattle.eb_scene.specs.declared.keys.Key.TheVariants as key
use Rattle.eb_scene.specs.declared.objects.Given.{Given}
use Rattle.eb_scene.specs.declared.objects.Object.{Object}
use Rattle.eb_scene.specs.declared.objects.Part.{Part}
use Rattle.eb_scene.specs.Answers.{Values, answer, has_key, same_key}
use Rattle.eb_scene.specs.Edits.{asset_field_set, asset_put, asset_removed, component_put, component_removed, edited, field_set, object_added, object_removed, on_scene, parent_set, section_set}
use Rattle.eb_scene.specs.Fits.{field_fitted, fitted}
use Rattle.eb_scene.specs.Numbers.{has_number}
use Rattle.eb_scene.specs.Projects.{Content, Numbered, Objects, numbered, object_in, objects_of, part_in, part_of}
use Rattle.eb_scene.specs.Tables.{changed, with_numbered, without_numbered}
use Rattle.eb_scene.specs.Touched.{touched}
use Rattle.eb_scene.specs.Validity.{IsValid}
use Rattle.eb_scene.proofs.AssetShapes.{is_asset_full, made, valued}
use Rattle.eb_scene.proofs.Children.{either}
use Rattle.eb_scene.proofs.EditShapes.{in_scene, nothing, refused, told_ok}
use Rattle.eb_scene.proofs.KeyFacts.{put_at}
use Rattle.eb_scene.proofs.LookUps.{equal, found_gone_apart, found_put, found_put_apart, found_set, found_set_apart, itself, turned}
use Rattle.eb_scene.proofs.PartShapes.{value_found}
use Rattle.eb_scene.proofs.SameKeys.{told_apart}
use Rattle.eb_scene.proofs.TouchedEdits.{spares_all}
use Rattle.eb_scene.proofs.ValidEdits.{valid_ascends}
use Rattle.eb_rules.specs.Kept.{Kept}
use Rattle.eb_rules.specs.declared.plans.BakerPlan.{BakerPlan}
use Rattle.eb_eval.specs.Copying.{is_copied}
use Rattle.eb_eval.specs.Runs.{baker_of, bakes, bakes_where, id_of, is_run, parts_in}
use Rattle.eb_rerun.specs.Again.{is_near, is_of, scene_gone}
use Rattle.eb_rerun.proofs.Recorded.{absent}

-- ---- tests

both_true : (a b : Bool) → a ≡ true → b ≡ true → (a && b) ≡ true
both_true true b h k = k
both_true false b h k = h

alike : (a b : Bool) → (a ≡ true → b ≡ true) → (b ≡ true → a ≡ true) → a ≡ b
alike true true f g = refl
alike true false f g = sym (f refl)
alike false true f g = g refl
alike false false f g = refl

first_holds : (a b : Bool) → a ≡ true → (a || b) ≡ true
first_holds true b h = refl
first_holds false b h = absurd (true≢false (sym h))

second_holds : (a b : Bool) → b ≡ true → (a || b) ≡ true
second_holds true b h = refl
second_holds false b h = h

-- ---- the types of components

-- whether there is a component of the type
abbrev pub has_kind : List Part → ℕ → Bool
has_kind parts kind = is_some (part_of parts kind)

abbrev pub AreAlike : List Part → List Part → Type 0
AreAlike parts others = (kind : ℕ) → has_kind parts kind ≡ has_kind others kind

module _ (test : ℕ → Bool) where
  abbrev any_kind : List Part → Bool
  any_kind parts = list_any (λ p. test p.kind) parts

  kind_where : (b : Bool) (p : Part) (ps : List Part) (kind : ℕ) → nat_eq p.kind kind ≡ b → test kind ≡ true → (has_kind ps kind ≡ true → any_kind ps ≡ true)
      → is_some (cond b (Some p) (part_of ps kind)) ≡ true → any_kind (p ∷ ps) ≡ true
  kind_where true p ps kind is passes later h = first_holds (test p.kind) (any_kind ps) (ap test (equal p.kind kind is) ∙ passes)
  kind_where false p ps kind is passes later h = second_holds (test p.kind) (any_kind ps) (later h)

  -- one of a type that passes is one that passes
  some_kind : (ps : List Part) (kind : ℕ) → test kind ≡ true → has_kind ps kind ≡ true → any_kind ps ≡ true
  some_kind [] kind passes h = absurd (true≢false (sym h))
  some_kind (p ∷ ps) kind passes h = kind_where (nat_eq p.kind kind) p ps kind refl passes (some_kind ps kind passes) h

  had_later : (b : Bool) (p : Part) (r : Option Part) → is_some r ≡ true → is_some (cond b (Some p) r) ≡ true
  had_later true p r h = refl
  had_later false p r h = h

  each_where : (b : Bool) (P : Type 0) (p : Part) (ps : List Part) → test p.kind ≡ b → ((kind : ℕ) → test kind ≡ true → has_kind (p ∷ ps) kind ≡ true → P)
      → (((kind : ℕ) → test kind ≡ true → has_kind ps kind ≡ true → P) → any_kind ps ≡ true → P) → (b || any_kind ps) ≡ true → P
  each_where true P p ps is each later h = each p.kind is (ap (λ b. is_some (cond b (Some p) (part_of ps p.kind))) (itself p.kind))
  each_where false P p ps is each later h = later (λ kind passes has. each kind passes (had_later (nat_eq p.kind kind) p (part_of ps kind) has)) h

  -- one that passes is of a type that passes
  each_kind : (P : Type 0) (ps : List Part) → ((kind : ℕ) → test kind ≡ true → has_kind ps kind ≡ true → P) → any_kind ps ≡ true → P
  each_kind P [] each h = absurd (true≢false (sym h))
  each_kind P (p ∷ ps) each h = each_where (test p.kind) P p ps refl each (each_kind P ps) h

  kinds_alike : (parts others : List Part) → AreAlike parts others → any_kind parts ≡ any_kind others
  kinds_alike parts others same =
      alike (any_kind parts) (any_kind others)
      (each_kind (any_kind others ≡ true) parts (λ kind passes has. some_kind others kind passes (sym (same kind) ∙ has)))
      (each_kind (any_kind parts ≡ true) others (λ kind passes has. some_kind parts kind passes (same kind ∙ has)))

-- components of the same types are baked by the same bakers
module _ (rules : Kept) (parts others : List Part) (same : AreAlike parts others) where
  baked_alike : (x : Option BakerPlan) → bakes x parts ≡ bakes x others
  baked_alike None = refl
  baked_alike (Some x) = same x.authoring

  runs_alike : (first : Bool) (b : ℕ) → bakes_where first rules b parts ≡ bakes_where first rules b others
  runs_alike true b = kinds_alike (is_copied rules.schema) parts others same
  runs_alike false b = baked_alike (baker_of rules b)

-- ---- what keys answer

told : (a b : Option (List Given)) → Values a ≡ Values b → a ≡ b
told a b h = cc

still_some : (r : Option Part) → is_some (option_map (λ p. p.values) r) ≡ is_some r
still_some None = refl
still_some (Some p) = refl

part_found : (g : Content) (s n kind : ℕ) (r : Option Object) → object_in g s n ≡ r → part_in g s n kind ≡ part_of (parts_in g s n) kind
part_found g s n kind None is = rw is refl
part_found g s n kind (Some o) is = rw is refl

answered : (g h : Content) (s n kind : ℕ) → answer h (key.Comp s n kind) ≡ answer g (key.Comp s n kind)
    → has_kind (parts_in h s n) kind ≡ has_kind (parts_in g s n) kind
answered g h s n kind same =
    sym (ap is_some (part_found h s n kind (object_in h s n) refl)) ∙ sym (still_some (part_in h s n kind))
    ∙ ap is_some (told (option_map (λ p. p.values) (part_in h s n kind)) (option_map (λ p. p.values) (part_in g s n kind)) same)
    ∙ still_some (part_in g s n kind) ∙ ap is_some (part_found g s n kind (object_in g s n) refl)

-- ---- keys of other objects

other_key : (b : Bool) (s n kind : ℕ) (k : Key) → same_key (key.Comp s n kind) k ≡ b → is_of s n k ≡ false → b ≡ false
other_key false s n kind k is far = refl
other_key true s n kind k is far =
    let own : is_of s n (key.Comp s n kind) ≡ true = both_true (nat_eq s s) (nat_eq n n) (itself s) (itself n) in
    absurd (true≢false (sym own ∙ ap (is_of s n) ((told_apart (key.Comp s n kind) k).0 is) ∙ far))

other_keys : (s n kind : ℕ) (ks : List Key) → list_any (is_of s n) ks ≡ false → has_key ks (key.Comp s n kind) ≡ false
other_keys s n kind [] far = refl
other_keys s n kind (k ∷ ks) far =
    let parts = either (is_of s n k) (list_any (is_of s n) ks) far in
    ap (λ b. b || has_key ks (key.Comp s n kind)) (other_key (same_key (key.Comp s n kind) k) s n kind k refl parts.0)
    ∙ other_keys s n kind ks parts.1

-- ---- scenes that aren't there

no_parts : (g : Content) (s n : ℕ) → numbered g.scenes s ≡ None → parts_in g s n ≡ []
no_parts g s n none = ap (λ r. option_map_or (λ o. o.components) (numbered (unwrap_or r []) n) []) none

not_none : {X : Type 0} (r : Option X) (x : X) → r ≡ Some x → r ≡ None → ⊥
not_none r x h k = cc

-- whether this is the object n of the scene s
abbrev is_object : ℕ → ℕ → ℕ × ℕ → Bool
is_object s n o = o.0 == s && o.1 == n

-- an object that goes with its scene is one of the scene
gone_here : (s n t : ℕ) → nat_eq t s ≡ true → (ns : List ℕ) → list_any (is_object s n) (map (λ m. (t, m)) ns) ≡ has_number ns n
gone_here s n t is [] = refl
gone_here s n t is (m ∷ ms) =
    ap (λ b. (b && nat_eq m n) || list_any (is_object s n) (map (λ k. (t, k)) ms)) is ∙ ap (λ b. nat_eq m n || b) (gone_here s n t is ms)

module _ (g : Content) (s n : ℕ) where
  added_where : (b : Bool) (t : ℕ) → nat_eq s t ≡ b → numbered (with_numbered g.scenes t []) s ≡ None → numbered g.scenes s ≡ None
  added_where true t is none =
      let scenes = with_numbered g.scenes t [] in
      absurd (not_none (numbered scenes s) [] (ap (numbered scenes) (equal s t is) ∙ found_put t [] g.scenes) none)
  added_where false t is none = sym (found_put_apart t s [] g.scenes is) ∙ none

  removed_where : (b : Bool) (t : ℕ) → nat_eq t s ≡ b → numbered (without_numbered g.scenes t) s ≡ None
      → list_any (is_object s n) (map (λ m. (t, m)) (keys_of (objects_of g t))) ≡ false → parts_in g s n ≡ []
  removed_where true t is none far =
      let other : has_number (keys_of (objects_of g t)) n ≡ false = sym (gone_here s n t is (keys_of (objects_of g t))) ∙ far in
      ap (λ o. option_map_or (λ x. x.components) o []) (absent n (objects_of g s)
      (subst (λ u. has_number (keys_of (objects_of g u)) n ≡ false) (equal t s is) other))
  removed_where false t is none far = no_parts g s n (sym (found_gone_apart t s g.scenes (turned s t ∙ is)) ∙ none)

  put_where : (b : Bool) (t : ℕ) (old new : Objects) → nat_eq s t ≡ b → numbered g.scenes t ≡ Some old → numbered (put_at g t new).scenes s ≡ None
      → numbered g.scenes s ≡ None
  put_where true t old new is found none =
      let scenes = (put_at g t new).scenes in
      absurd (not_none (numbered scenes s) new (ap (numbered scenes) (equal s t is) ∙ found_set t old new g.scenes found) none)
  put_where false t old new is found none = sym (found_set_apart t s new g.scenes is) ∙ none

module _ (g h : Content) (s n : ℕ) (none : numbered h.scenes s ≡ None) where
  within : (t : ℕ) (f : Objects → Result Objects EditFault) → on_scene g t f ≡ Ok h → parts_in g s n ≡ []
  within t f is =
      let c = in_scene g h t f is in
      no_parts g s n (put_where g s n (nat_eq s t) t c.old c.new refl c.found (subst (λ x. numbered x.scenes s ≡ None) c.is none))

  -- the scenes are as they were
  kept_scenes : (assets : Numbered (List Given)) → h ≡ record g { assets = assets } → parts_in g s n ≡ []
  kept_scenes assets is = no_parts g s n (subst (λ x. numbered x.scenes s ≡ None) is none)

  asset_made : (k : ℕ) (raws : List RawField) → asset_put g k raws ≡ Ok h → parts_in g s n ≡ []
  asset_made k raws is =
      let v = value_found (fitted g.schema.assets raws) (made g k) h is in
      let r = refused (is_asset_full g k) fault.AssetLimit _ h v.1 in
      let assets = with_numbered g.assets k v.0 in
      kept_scenes assets (told_ok (record g { assets = assets }) h r.1)

  asset_gone : (k : ℕ) → asset_removed g k ≡ Ok h → parts_in g s n ≡ []
  asset_gone k is =
      let r = refused (not (is_some (numbered g.assets k))) fault.NoAsset _ h is in
      let assets = without_numbered g.assets k in
      kept_scenes assets (told_ok (record g { assets = assets }) h r.1)

  asset_valued : (k : ℕ) (field : List ℕ) (raw : Raw) → asset_field_set g k field raw ≡ Ok h → parts_in g s n ≡ []
  asset_valued k field raw is =
      let v = value_found (field_fitted g.schema.assets field raw) (valued g k) h is in
      let r = refused (not (is_some (numbered g.assets k))) fault.NoAsset _ h v.1 in
      let assets = changed (λ (values : List Given). slice_set values v.0.0 v.0.1) g.assets k in
      kept_scenes assets (told_ok (record g { assets = assets }) h r.1)

  -- where its scene isn't there after an edit, an object that doesn't go with a scene wasn't there before
  left : (e : Edit) → edited g e ≡ Ok h → list_any (is_object s n) (scene_gone g e) ≡ false → parts_in g s n ≡ []
  left (edit.AddScene t) is far =
      let r = refused (is_some (numbered g.scenes t)) fault.SceneTaken _ h is in
      let new = record g { scenes = with_numbered g.scenes t [] } in
      no_parts g s n (added_where g s n (nat_eq s t) t refl (subst (λ x. numbered x.scenes s ≡ None) (told_ok new h r.1) none))
  left (edit.RemoveScene t) is far =
      let r = refused (not (is_some (numbered g.scenes t))) fault.NoScene _ h is in
      let new = record g { scenes = without_numbered g.scenes t } in
      removed_where g s n (nat_eq t s) t refl (subst (λ x. numbered x.scenes s ≡ None) (told_ok new h r.1) none) far
  left (edit.AddObject t m parent mark) is far = within t (λ es. object_added es m parent mark) is
  left (edit.RemoveObject t m) is far = within t (λ es. object_removed es m) is
  left (edit.SetParent t m parent) is far = within t (λ es. parent_set es m parent) is
  left (edit.SetSection t m mark) is far = within t (λ es. section_set es m mark) is
  left (edit.PutComponent t m kind fields) is far = within t (λ es. component_put g.schema es m kind fields) is
  left (edit.RemoveComponent t m kind) is far = within t (λ es. component_removed g.schema es m kind) is
  left (edit.SetField t m kind field value) is far = within t (λ es. field_set g.schema es m kind field value) is
  left (edit.PutAsset k fields) is far = asset_made k fields is
  left (edit.RemoveAsset k) is far = asset_gone k is
  left (edit.SetAssetField k field value) is far = asset_valued k field value is

-- ---- an object that an edit doesn't come near

alike_where : (b : Bool) (g h : Content) (e : Edit) (s n : ℕ) → is_some (numbered h.scenes s) ≡ b → IsValid g → edited g e ≡ Ok h → is_near g e s n ≡ false
    → AreAlike (parts_in h s n) (parts_in g s n)
alike_where true g h e s n there valid is far = λ kind.
    let keys = (either (list_any (is_object s n) (scene_gone g e)) (list_any (is_of s n) (touched g e)) far).1 in
    answered g h s n kind (spares_all g h e (key.Comp s n kind) (valid_ascends g valid) is there refl (other_keys s n kind (touched g e) keys))
alike_where false g h e s n gone valid is far = λ kind.
    let none = nothing (numbered h.scenes s) gone in
    let objects = (either (list_any (is_object s n) (scene_gone g e)) (list_any (is_of s n) (touched g e)) far).0 in
    ap (λ ps. has_kind ps kind) (no_parts h s n none ∙ sym (left g h s n none e is objects))

pub same_runs : (rules : Kept) (g h : Content) (e : Edit) → IsValid g → edited g e ≡ Ok h → (s n : ℕ) → is_near g e s n ≡ false
    → (b : ℕ) → is_run rules h (id_of s n b) ≡ is_run rules g (id_of s n b)
same_runs rules g h e valid is s n far b =
    runs_alike rules (parts_in h s n) (parts_in g s n) (alike_where (is_some (numbered h.scenes s)) g h e s n refl valid is far) (nat_eq b 0) b
