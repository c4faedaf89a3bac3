-- Each edit that a document of the right form stands for speaks of what a project may have.
use Rattle.std.proofs.Common.{◌≡◌, ℕ, zero, suc, ◌<◌, length, get_or, arith, List, [], ◌∷◌, ◌++◌, map, flat_map, Option, Some, None, Result, IfOk}
use Rattle.std.specs.List.{AllByRecursion}
use Rattle.serde_json.specs.Data.{Data, Items, no_items, item}
use Rattle.serde_json.specs.Find.{as_array}
use Rattle.eb_json.specs.declared.faults.FormFault.{FormFault}
use Rattle.eb_json.specs.Places.{further, after}
use Rattle.eb_json.specs.Forms.{◌>>=◌, or_wrong, items_at, list_at}
use Rattle.eb_scene.specs.Validity.{IsSceneNumber, IsNumber, IsEdit}
use Rattle.eb_scene_text.specs.declared.drafts.DraftAsset.{DraftAsset}
use Rattle.eb_scene_text.specs.declared.drafts.DraftObject.{DraftObject}
use Rattle.eb_scene_text.specs.declared.drafts.DraftScene.{DraftScene}
use Rattle.eb_scene_text.specs.declared.drafts.DraftProject.{DraftProject}
use Rattle.eb_scene_text.specs.Values.{taken}
use Rattle.eb_scene_text.specs.ProjectForm.{draft_asset_at, draft_object_at, draft_scene_at, draft_at, parent_edits_of, parent_edits, part_edits, scene_edits, draft_edits}
use Rattle.eb_scene_text.proofs.ReadFacts.{first_any, first_read, first_taken, of_read}
use Rattle.eb_scene_text.proofs.EditFacts.{scene_first, number_first}

-- ---- lists

module _ {X : Type 0} (form : ℕ → Data → Result X FormFault) (P : X → Type 0) (tells : (place : ℕ) (d : Data) → IfOk (form place d) P) where
  items_tell : (place : ℕ) (ds : Items) → IfOk (items_at form place ds) (AllByRecursion P)
  unfolding items_at
  items_tell place no_items = tt
  items_tell place (item d ds) =
      first_read (form place d) _ P (AllByRecursion P) (tells place d)
      (λ x holds. first_read (items_at form (after place d) ds) _ (AllByRecursion P) (AllByRecursion P) (items_tell (after place d) ds) (λ xs all. (holds, all)))

  pub list_tells : (place : ℕ) (d : Data) → IfOk (list_at form place d) (AllByRecursion P)
  list_tells place d = first_any (or_wrong place (as_array d)) (λ ds. items_at form (further place 1) ds) (AllByRecursion P) (λ ds. items_tell (further place 1) ds)

  pub list_first : {B : Type 0} (key : List ℕ) (d : Data) (place : ℕ) (f : List X × ℕ → Result B FormFault) (Q : B → Type 0) → ((p : List X × ℕ) → AllByRecursion P p.0 → IfOk (f p) Q) → IfOk (taken (list_at form) key d place >>= f) Q
  list_first = first_taken (list_at form) (AllByRecursion P) (λ place d xs is. of_read (list_at form place d) (AllByRecursion P) (list_tells place d) xs is)

pub all_append : {X : Type 0} (P : X → Type 0) (xs ys : List X) → AllByRecursion P xs → AllByRecursion P ys → AllByRecursion P (xs ++ ys)
all_append P [] ys front back = back
all_append P (x ∷ xs) ys front back = (front.0, all_append P xs ys front.1 back)

module _ {X Y : Type 0} (P : X → Type 0) (Q : Y → Type 0) where
  all_map : (f : X → Y) → ((x : X) → P x → Q (f x)) → (xs : List X) → AllByRecursion P xs → AllByRecursion Q (map f xs)
  all_map f each [] all = tt
  all_map f each (x ∷ xs) all = (each x all.0, all_map f each xs all.1)

  all_flat : (f : X → List Y) → ((x : X) → P x → AllByRecursion Q (f x)) → (xs : List X) → AllByRecursion P xs → AllByRecursion Q (flat_map f xs)
  all_flat f each [] all = tt
  all_flat f each (x ∷ xs) all = all_append Q (f x) (flat_map f xs) (each x all.0) (all_flat f each xs all.1)

pub all_at : {X : Type 0} (P : X → Type 0) (xs : List X) (i : ℕ) (x : X) → AllByRecursion P xs → i < length xs → x ≡ get_or xs i x → P x
all_at P [] i x all within is = absurd (omega arith)
all_at P (y ∷ ys) zero x all within is = rw is all.0
all_at P (y ∷ ys) (suc i) x all within is = all_at P ys i x all.1 (omega arith) is

always : {X : Type 0} (P : X → Type 0) → ((x : X) → P x) → (xs : List X) → AllByRecursion P xs
always P each [] = tt
always P each (x ∷ xs) = (each x, always P each xs)

-- ---- what was read

abbrev IsAsset : DraftAsset → Type 0
IsAsset a = IsNumber a.number

abbrev IsObject : DraftObject → Type 0
IsObject o = IsNumber o.number

abbrev IsScene : DraftScene → Type 0
IsScene c = IsSceneNumber c.number × AllByRecursion IsObject c.objects

abbrev pub IsDraft : DraftProject → Type 0
IsDraft p = AllByRecursion IsAsset p.assets × AllByRecursion IsScene p.scenes

asset_fits : (place : ℕ) (d : Data) → IfOk (draft_asset_at place d) IsAsset
unfolding draft_asset_at
asset_fits place d = search (number_first, first_any) depth 12

object_fits : (place : ℕ) (d : Data) → IfOk (draft_object_at place d) IsObject
unfolding draft_object_at
object_fits place d = search (number_first, first_any) depth 12

objects_first : {B : Type 0} (key : List ℕ) (d : Data) (place : ℕ) (f : List DraftObject × ℕ → Result B FormFault) (Q : B → Type 0) → ((p : List DraftObject × ℕ) → AllByRecursion IsObject p.0 → IfOk (f p) Q) → IfOk (taken (list_at draft_object_at) key d place >>= f) Q
objects_first = list_first draft_object_at IsObject object_fits

scene_fits : (place : ℕ) (d : Data) → IfOk (draft_scene_at place d) IsScene
unfolding draft_scene_at
scene_fits place d = search (scene_first, objects_first, first_any) depth 12

assets_first : {B : Type 0} (key : List ℕ) (d : Data) (place : ℕ) (f : List DraftAsset × ℕ → Result B FormFault) (Q : B → Type 0) → ((p : List DraftAsset × ℕ) → AllByRecursion IsAsset p.0 → IfOk (f p) Q) → IfOk (taken (list_at draft_asset_at) key d place >>= f) Q
assets_first = list_first draft_asset_at IsAsset asset_fits

scenes_first : {B : Type 0} (key : List ℕ) (d : Data) (place : ℕ) (f : List DraftScene × ℕ → Result B FormFault) (Q : B → Type 0) → ((p : List DraftScene × ℕ) → AllByRecursion IsScene p.0 → IfOk (f p) Q) → IfOk (taken (list_at draft_scene_at) key d place >>= f) Q
scenes_first = list_first draft_scene_at IsScene scene_fits

pub draft_fits : (place : ℕ) (d : Data) → IfOk (draft_at place d) IsDraft
unfolding draft_at
draft_fits place d = search (assets_first, scenes_first, first_any) depth 12

-- ---- the edits

parents_fit : (s n : ℕ) (parent : Option ℕ) → IsSceneNumber s → IsNumber n → AllByRecursion IsEdit (parent_edits_of s n parent)
parents_fit s n None at_scene at_object = tt
parents_fit s n (Some p) at_scene at_object = ((at_scene, at_object), tt)

scene_edits_fit : (c : DraftScene) → IsScene c → AllByRecursion IsEdit (scene_edits c)
scene_edits_fit c fits =
    let s = fits.0 in (
      s,
      all_append IsEdit _ _ (all_map IsObject IsEdit _ (λ o n. (s, n)) c.objects fits.1)
          (all_append IsEdit _ _ (all_flat IsObject IsEdit (parent_edits c.number) (λ o n. parents_fit c.number o.number o.parent s n) c.objects fits.1)
          (all_flat IsObject IsEdit (part_edits c.number) (λ o n. all_map (λ p. Unit {0}) IsEdit _ (λ p u. (s, n)) o.components (always (λ p. Unit {0}) (λ p. tt) o.components)) c.objects fits.1)),
    )

pub edits_fit : (p : DraftProject) → IsDraft p → AllByRecursion IsEdit (draft_edits p)
edits_fit p fits = all_append IsEdit _ _ (all_map IsAsset IsEdit _ (λ a n. n) p.assets fits.0) (all_flat IsScene IsEdit scene_edits scene_edits_fit p.scenes fits.1)
