-- The document of a valid project has its form, and stands for the project's own edits.
use Rattle.std.proofs.Common.{◌≡◌, ℕ, ◌≤◌, ◌<◌, ◌+◌, List, [], ◌∷◌, ◌++◌, map, flat_map, codes, true, false, nat_le, ◌&&◌, Option, Some, None, Result, Ok, is_some, if◌then◌else◌, true≢false, refl, sym, ap, ◌∙◌, arith}
use Rattle.std.specs.Prelude.{option_and_then}
use Rattle.std.specs.List.{AllByRecursion}
use Rattle.std.specs.Map.{keys_of}
use Rattle.std.proofs.lemmas.Bool.Decides.{nat_tests}
use Rattle.std.proofs.lemmas.List.Concat.{flat_map_single}
use Rattle.serde_json.specs.Data.{Data, number, array, object, unsigned, no_members}
use Rattle.serde_json.specs.Find.{get}
use Rattle.serde_json.specs.View.{items_of}
use Rattle.eb_json.specs.declared.faults.FormFault.{FormFault}
use Rattle.eb_json.specs.Forms.{◌>>=◌, or_wrong, natural_at, items_at, list_at}
use Rattle.eb_json.specs.Places.{further, after}
use Rattle.eb_json.specs.Documents.{has_keys, has_each}
use Rattle.eb_schema.specs.Schemas.{Types}
use Rattle.eb_scene.specs.declared.objects.Given.{Given}
use Rattle.eb_scene.specs.declared.objects.Object.{Object}
use Rattle.eb_scene.specs.declared.edits.Edit.TheVariants as edit
use Rattle.eb_scene.specs.declared.edits.RawField.{RawField}
use Rattle.eb_scene.specs.Projects.{Content, Objects, numbered, parent_at}
use Rattle.eb_scene.specs.Edits.{is_there, is_past}
use Rattle.eb_scene.specs.Validity.{IsNumber, IsSceneNumber, Suit, IsObject, IsScene, IsValid}
use Rattle.eb_scene.specs.Rebuilding as scene
use Rattle.eb_scene.specs.Rebuilding.{all_edited}
use Rattle.eb_scene.proofs.RebuildProjects.{rebuilt}
use Rattle.eb_scene_text.specs.ReadFaults.{read_as}
use Rattle.eb_scene.proofs.ValidListing.{by_keys, by_numbers}
use Rattle.eb_scene.proofs.ValidTables.{each_numbered, all_found}
use Rattle.eb_scene_text.specs.declared.drafts.DraftAsset.{DraftAsset}
use Rattle.eb_scene_text.specs.declared.drafts.DraftPart.{DraftPart}
use Rattle.eb_scene_text.specs.declared.drafts.DraftObject.{DraftObject}
use Rattle.eb_scene_text.specs.declared.drafts.DraftScene.{DraftScene}
use Rattle.eb_scene_text.specs.declared.drafts.DraftProject.{DraftProject}
use Rattle.eb_scene_text.specs.Values.{scene_at, number_at, above_at, mark_at, members_at, raw_field_at, fields_at, taken}
use Rattle.eb_scene_text.specs.ProjectForm.{draft_asset_at, draft_part_at, draft_parts_at, object_keys, draft_object_at, draft_scene_at, draft_at, parent_edits_of, scene_edits, parent_edits, part_edits, draft_edits, made_by, without_all, project_of}
use Rattle.eb_scene_text.specs.ProjectText.{number_or_null, fields_data, with_parts, object_data, if_there, object_found, objects_data, scene_data, scene_found, asset_data, asset_found, assets_data, scene_numbers, scenes_data, document}
use Rattle.eb_scene_text.proofs.WrittenFacts.{raw_data, raw_members, AllRead, as_members, AllThings, part_data, fields_written, fields_read, parts_written, parts_read}

-- ---- what is read

abbrev pub draft_asset : Types → ℕ × List Given → DraftAsset
draft_asset types a = record { number = a.0; fields = scene.written_fields types.assets a.1 }

abbrev pub draft_part : List ℕ × List RawField → DraftPart
draft_part p = record { kind = p.0; fields = p.1 }

abbrev pub draft_object : Types → ℕ × Object → DraftObject
draft_object types e = record { number = e.0; parent = e.1.parent; section = e.1.mark; components = map draft_part (scene.written_parts types e.1.components) }

abbrev pub draft_scene : Types → ℕ × Objects → DraftScene
draft_scene types s = record { number = s.0; objects = map (draft_object types) s.1 }

abbrev pub draft_of : Content → DraftProject
draft_of g = record { assets = map (draft_asset g.schema) g.assets; scenes = map (draft_scene g.schema) g.scenes }

-- ---- it stands for the project's edits

module _ {A B Y : Type 0} (h : A → B) where
  map_alike : (f : A → Y) (g : B → Y) → ((a : A) → g (h a) ≡ f a) → (xs : List A) → map g (map h xs) ≡ map f xs
  map_alike f g same [] = refl
  map_alike f g same (x ∷ xs) = ap (λ y. y ∷ map g (map h xs)) (same x) ∙ ap (λ ys. f x ∷ ys) (map_alike f g same xs)

  flat_alike : (f : A → List Y) (g : B → List Y) → ((a : A) → g (h a) ≡ f a) → (xs : List A) → flat_map g (map h xs) ≡ flat_map f xs
  flat_alike f g same [] = refl
  flat_alike f g same (x ∷ xs) = ap (λ ys. ys ++ flat_map g (map h xs)) (same x) ∙ ap (λ ys. f x ++ ys) (flat_alike f g same xs)

parents_alike : (s n : ℕ) (parent : Option ℕ) → parent_edits_of s n parent ≡ scene.parent_edit s n parent
parents_alike s n None = refl
parents_alike s n (Some p) = refl

parts_alike : (types : Types) (s : ℕ) (e : ℕ × Object) → part_edits s (draft_object types e) ≡ scene.part_edits types s e.0 e.1
parts_alike types s e = map_alike draft_part (λ p. edit.PutComponent s e.0 p.0 p.1) (λ p. edit.PutComponent s e.0 p.kind p.fields) (λ p. refl) (scene.written_parts types e.1.components)

scenes_alike : (types : Types) (s : ℕ × Objects) → scene_edits (draft_scene types s) ≡ scene.scene_edits types s
scenes_alike types s =
    let objects : List DraftObject = map (draft_object types) s.1 in
    ap (λ es. edit.AddScene s.0 ∷ (es ++ (flat_map (parent_edits s.0) objects ++ flat_map (part_edits s.0) objects)))
    (map_alike (draft_object types) (λ e. edit.AddObject s.0 e.0 None e.1.mark) (λ o. edit.AddObject s.0 o.number None o.section) (λ e. refl) s.1)
    ∙ ap (λ es. edit.AddScene s.0 ∷ (scene.object_edits s.0 s.1 ++ (es ++ flat_map (part_edits s.0) objects)))
    (flat_alike (draft_object types) (λ e. scene.parent_edit s.0 e.0 e.1.parent) (parent_edits s.0) (λ e. parents_alike s.0 e.0 e.1.parent) s.1)
    ∙ ap (λ es. edit.AddScene s.0 ∷ (scene.object_edits s.0 s.1 ++ (scene.parent_edits s.0 s.1 ++ es)))
    (flat_alike (draft_object types) (λ e. scene.part_edits types s.0 e.0 e.1) (part_edits s.0) (parts_alike types s.0) s.1)

pub edits_alike : (g : Content) → draft_edits (draft_of g) ≡ scene.edits_of g
edits_alike g =
    ap (λ es. es ++ flat_map scene_edits (map (draft_scene g.schema) g.scenes))
    (map_alike (draft_asset g.schema) (λ a. edit.PutAsset a.0 (scene.written_fields g.schema.assets a.1)) (λ a. edit.PutAsset a.number a.fields) (λ a. refl) g.assets)
    ∙ ap (λ es. scene.asset_edits g ++ es) (flat_alike (draft_scene g.schema) (scene.scene_edits g.schema) scene_edits (scenes_alike g.schema) g.scenes)

-- ---- numbers

natural_reads : (least most n place : ℕ) → least ≤ n → n ≤ most → natural_at least most place (number (unsigned n)) ≡ Ok n
natural_reads least most n place low high =
    let lies : (nat_le least n && nat_le n most) ≡ true = grind (arith, nat_tests) in
    ap (λ b. or_wrong place (if b then Some n else None)) lies

abbrev OrNone : (ℕ → Type 0) → Option ℕ → Type 0
OrNone P None = Unit {0}
OrNone P (Some n) = P n

above_reads : (p : Option ℕ) (place : ℕ) → OrNone IsNumber p → above_at place (number_or_null p) ≡ Ok p
above_reads None place is = refl
above_reads (Some n) place is = ap (λ r. r >>= λ m. Ok (Some m)) (natural_reads 1 4294967295 n place is.0 is.1)

mark_reads : (m : Option ℕ) (place : ℕ) → is_past m ≡ false → mark_at place (number_or_null m) ≡ Ok m
mark_reads None place is = refl
mark_reads (Some n) place is =
    let high : n ≤ 4294967295 = grind (arith, nat_tests) in
    ap (λ r. r >>= λ m. Ok (Some m)) (natural_reads 0 4294967295 n place (omega arith) high)

-- ---- members

raw_reads : (rs : List RawField) (place : ℕ) → AllRead rs → members_at raw_field_at place (raw_members rs) ≡ Ok rs
unfolding members_at
raw_reads [] place all = refl
raw_reads (r ∷ rs) place all =
    let next = after place (raw_data r.value) in
    ap (λ o. (or_wrong place o >>= λ v. Ok (record { name = r.name; value = v })) >>= λ x. members_at raw_field_at next (raw_members rs) >>= λ xs. Ok (x ∷ xs)) all.0
    ∙ ap (λ read. read >>= λ xs. Ok (r ∷ xs)) (raw_reads rs next all.1)

fields_form : (rs : List RawField) (place : ℕ) → AllRead rs → fields_at place (part_data rs) ≡ Ok rs
fields_form rs place all = raw_reads rs (further place 1) all

parts_read_as : (es : List (List ℕ × List RawField)) (place : ℕ) → AllThings AllRead es → members_at draft_part_at place (as_members part_data es) ≡ Ok (map draft_part es)
unfolding members_at
parts_read_as [] place all = refl
parts_read_as (e ∷ es) place all =
    let next = after place (part_data e.1) in
    ap (λ read. (read >>= λ fields. Ok (draft_part (e.0, fields))) >>= λ x. members_at draft_part_at next (as_members part_data es) >>= λ xs. Ok (x ∷ xs)) (fields_form e.1 place all.0)
    ∙ ap (λ read. read >>= λ xs. Ok (draft_part e ∷ xs)) (parts_read_as es next all.1)

parts_form : (es : List (List ℕ × List RawField)) (place : ℕ) → AllThings AllRead es → draft_parts_at place (object (as_members part_data es)) ≡ Ok (map draft_part es)
unfolding draft_parts_at
parts_form es place all = parts_read_as es (further place 1) all

-- a member that is there and reads
module _ {X B : Type 0} (form : ℕ → Data → Result X FormFault) (key : List ℕ) (d v : Data) (x : X) where
  taken_as : (place : ℕ) (f : X × ℕ → Result B FormFault) (r : Result B FormFault) → get key d ≡ Some v → ((p : ℕ) → form p v ≡ Ok x) → ((next : ℕ) → f (x, next) ≡ r) → taken form key d place >>= f ≡ r
  taken_as place f r there reads later =
      ap (λ o. (or_wrong place o >>= λ value. form place value >>= λ y. Ok (y, after place value)) >>= f) there
      ∙ ap (λ read. (read >>= λ y. Ok (y, after place v)) >>= f) (reads place)
      ∙ later (after place v)

-- ---- lists

module _ {E X : Type 0} (form : ℕ → Data → Result X FormFault) (data_of : E → Data) (read_of : E → X) (P : E → Type 0) (reads : (e : E) → P e → (place : ℕ) → form place (data_of e) ≡ Ok (read_of e)) where
  items_read : (es : List E) (place : ℕ) → AllByRecursion P es → items_at form place (items_of (map data_of es)) ≡ Ok (map read_of es)
  unfolding items_at
  items_read [] place all = refl
  items_read (e ∷ es) place all =
      let next = after place (data_of e) in
      ap (λ read. read >>= λ x. items_at form next (items_of (map data_of es)) >>= λ xs. Ok (x ∷ xs)) (reads e all.0 place)
      ∙ ap (λ read. read >>= λ xs. Ok (read_of e ∷ xs)) (items_read es next all.1)

  pub list_reads : (es : List E) (ds : List Data) (place : ℕ) → ds ≡ map data_of es → AllByRecursion P es → list_at form place (array (items_of ds)) ≡ Ok (map read_of es)
  list_reads es ds place is all = ap (λ xs. items_at form (further place 1) (items_of xs)) is ∙ items_read es (further place 1) all

-- ---- an asset

asset_reads : (types : Types) (a : ℕ × List Given) → IsNumber a.0 × Suit types.assets a.1 → (place : ℕ) → draft_asset_at place (asset_data types a.0 a.1) ≡ Ok (draft_asset types a)
unfolding draft_asset_at asset_data has_keys has_each
asset_reads types a is place =
    let d : Data = asset_data types a.0 a.1 in
    let fields : List RawField = scene.written_fields types.assets a.1 in
    taken_as fields_at (codes "fields") d (fields_data types.assets a.1) fields (further place 1) _ (Ok (draft_asset types a)) refl
    (λ p. ap (fields_at p) (fields_written types.assets a.1) ∙ fields_form fields p (fields_read types.assets a.1 is.1))
    (λ next. taken_as number_at (codes "number") d (number (unsigned a.0)) a.0 next _ (Ok (draft_asset types a)) refl (λ p. natural_reads 1 4294967295 a.0 p is.0.0 is.0.1) (λ end. refl))

-- ---- an object

-- an object of its number, whose parent is one's number too
abbrev IsRead : Types → ℕ × Object → Type 0
IsRead types e = IsObject types e.0 e.1 × OrNone IsNumber e.1.parent

object_reads : (types : Types) (e : ℕ × Object) → IsRead types e → (place : ℕ) → draft_object_at place (object_data types e.0 e.1) ≡ Ok (draft_object types e)
unfolding draft_object_at object_data object_keys has_keys has_each
object_reads types e is place =
    let d : Data = object_data types e.0 e.1 in
    let o : Object = e.1 in
    let want : DraftObject = draft_object types e in
    let parts = scene.written_parts types o.components in
    taken_as draft_parts_at (codes "components") d (object (with_parts types no_members o.components)) (map draft_part parts) (further place 1) _ (Ok want) refl
    (λ p. ap (λ ms. draft_parts_at p (object ms)) (parts_written types o.components is.0.parts.each) ∙ parts_form parts p (parts_read types o.components is.0.parts.each))
    (λ next. taken_as number_at (codes "number") d (number (unsigned e.0)) e.0 next _ (Ok want) refl (λ p. natural_reads 1 4294967295 e.0 p is.0.range.0 is.0.range.1)
    (λ next. taken_as above_at (codes "parent") d (number_or_null o.parent) o.parent next _ (Ok want) refl (λ p. above_reads o.parent p is.1)
    (λ next. taken_as mark_at (codes "section") d (number_or_null o.mark) o.mark next _ (Ok want) refl (λ p. mark_reads o.mark p is.0.mark) (λ end. refl))))

-- ---- the objects of a scene

there_is : {X : Type 0} (r : Option X) → is_some r ≡ true → (x : X) × (r ≡ Some x)
there_is None h = absurd (true≢false (sym h))
there_is (Some x) h = (x, refl)

parent_numbered : (types : Types) (es : Objects) (p : Option ℕ) → AllByRecursion (λ e. IsObject types e.0 e.1) es → is_there es p ≡ true → OrNone IsNumber p
parent_numbered types es None all there = tt
parent_numbered types es (Some p) all there =
    let found = there_is (numbered es p) there in
    (all_found (λ e. IsObject types e.0 e.1) p found.0 es all found.1).range

each_read : (types : Types) (es fs : Objects) → IsScene types es → AllByRecursion (λ e. IsObject types e.0 e.1) fs → AllByRecursion (λ e. numbered es e.0 ≡ Some e.1) fs → AllByRecursion (IsRead types) fs
each_read types es [] is all found = tt
each_read types es (e ∷ fs) is all found =
    let parent : parent_at es e.0 ≡ e.1.parent = ap (option_and_then (λ o. o.parent)) found.0 in
    ((all.0, parent_numbered types es e.1.parent is.objects (ap (is_there es) (sym parent) ∙ is.parents e.0)), each_read types es fs is all.1 found.1)

objects_listed : (types : Types) (es : Objects) → IsScene types es → flat_map (object_found types es) (keys_of es) ≡ map (λ e. object_data types e.0 e.1) es
unfolding object_found
objects_listed types es is = by_keys (λ n. if_there (object_data types n)) es is.order ∙ flat_map_single (λ e. object_data types e.0 e.1) es

-- ---- a scene

scene_reads : (types : Types) (s : ℕ × Objects) → IsSceneNumber s.0 × IsScene types s.1 → (place : ℕ) → draft_scene_at place (scene_data types s.0 s.1) ≡ Ok (draft_scene types s)
unfolding draft_scene_at scene_data has_keys has_each
scene_reads types s is place =
    let d : Data = scene_data types s.0 s.1 in
    let want : DraftScene = draft_scene types s in
    let es : Objects = s.1 in
    taken_as scene_at (codes "number") d (number (unsigned s.0)) s.0 (further place 1) _ (Ok want) refl (λ p. natural_reads 1 16 s.0 p is.0.0 is.0.1)
    (λ next. taken_as (list_at draft_object_at) (codes "objects") d (objects_data types es) (map (draft_object types) es) next _ (Ok want) refl
    (λ p. list_reads draft_object_at (λ e. object_data types e.0 e.1) (draft_object types) (IsRead types) (object_reads types) es (flat_map (object_found types es) (keys_of es)) p (objects_listed types es is.1) (each_read types es es is.1 is.1.objects (each_numbered es is.1.order)))
    (λ end. refl))

-- ---- the project

least_ones : (types : Types) (ss : List (ℕ × Objects)) → AllByRecursion (λ s. IsSceneNumber s.0 × IsScene types s.1) ss → AllByRecursion (λ k. 1 ≤ k) (keys_of ss)
least_ones types [] all = tt
least_ones types (s ∷ ss) all = (all.0.0.0, least_ones types ss all.1)

most_ones : (types : Types) (ss : List (ℕ × Objects)) → AllByRecursion (λ s. IsSceneNumber s.0 × IsScene types s.1) ss → AllByRecursion (λ k. k < 1 + 16) (keys_of ss)
most_ones types [] all = tt
most_ones types (s ∷ ss) all = let most = all.0.0.1 in (omega (arith, most), most_ones types ss all.1)

assets_listed : (g : Content) → IsValid g → flat_map (asset_found g) (keys_of g.assets) ≡ map (λ a. asset_data g.schema a.0 a.1) g.assets
unfolding asset_found
assets_listed g is = by_keys (λ n. if_there (asset_data g.schema n)) g.assets is.asset_order ∙ flat_map_single (λ a. asset_data g.schema a.0 a.1) g.assets

scenes_listed : (g : Content) → IsValid g → flat_map (scene_found g) scene_numbers ≡ map (λ s. scene_data g.schema s.0 s.1) g.scenes
unfolding scene_found scene_numbers
scenes_listed g is =
    by_numbers (λ n. if_there (scene_data g.schema n)) (λ n. refl) 1 16 g.scenes is.scene_order (least_ones g.schema g.scenes is.scenes) (most_ones g.schema g.scenes is.scenes)
    ∙ flat_map_single (λ s. scene_data g.schema s.0 s.1) g.scenes

-- the document of a valid project has its form
pub document_reads : (g : Content) → IsValid g → (place : ℕ) → draft_at place (document g) ≡ Ok (draft_of g)
unfolding draft_at document has_keys has_each
document_reads g is place =
    let d : Data = document g in
    let types : Types = g.schema in
    taken_as (list_at draft_asset_at) (codes "assets") d (assets_data g) (map (draft_asset types) g.assets) (further place 1) _ (Ok (draft_of g)) refl
    (λ p. list_reads draft_asset_at (λ a. asset_data types a.0 a.1) (draft_asset types) (λ a. IsNumber a.0 × Suit types.assets a.1) (asset_reads types) g.assets (flat_map (asset_found g) (keys_of g.assets)) p (assets_listed g is) is.assets)
    (λ next. taken_as (list_at draft_scene_at) (codes "scenes") d (scenes_data g) (map (draft_scene types) g.scenes) next _ (Ok (draft_of g)) refl
    (λ p. list_reads draft_scene_at (λ s. scene_data types s.0 s.1) (draft_scene types) (λ s. IsSceneNumber s.0 × IsScene types s.1) (scene_reads types) g.scenes (flat_map (scene_found g) scene_numbers) p (scenes_listed g is) is.scenes)
    (λ end. refl))

-- ---- the document is read as the project

pub project_read_back : (g : Content) → IsValid g → project_of g.schema (document g) ≡ Ok g
unfolding project_of
project_read_back g is =
    ap (λ r. read_as r >>= λ draft. made_by (all_edited 0 (without_all g.schema) (draft_edits draft))) (document_reads g is 0)
    ∙ ap (λ es. made_by (all_edited 0 (without_all g.schema) es)) (edits_alike g)
    ∙ ap made_by (rebuilt g is)
