-- Each edit that was read speaks of scenes, objects and assets that a project may have.
use Rattle.std.proofs.Common.{ℕ, List, Result, Ok, IfOk}
use Rattle.serde_json.specs.Data.{Data}
use Rattle.eb_json.specs.Forms.{◌>>=◌}
use Rattle.eb_json.specs.declared.faults.FormFault.{FormFault}
use Rattle.eb_scene.specs.declared.edits.Edit.TheVariants as edit
use Rattle.eb_scene.specs.Validity.{IsSceneNumber, IsNumber, IsEdit}
use Rattle.eb_scene_text.specs.declared.words.Word.{Word}
use Rattle.eb_scene_text.specs.declared.words.Word.TheVariants as word
use Rattle.eb_scene_text.specs.Values.{scene_at, number_at, taken}
use Rattle.eb_scene_text.specs.EditForm.{scene_alone_at, asset_alone_at, add_object_at, remove_object_at, set_parent_at, set_section_at, put_component_at, remove_component_at, set_field_at, put_asset_at, set_asset_field_at, members_as}
use Rattle.eb_scene_text.proofs.ReadFacts.{first_read, first_any, scene_in_range, number_in_range, first_taken}

pub scene_first : {B : Type 0} (key : List ℕ) (d : Data) (place : ℕ) (f : ℕ × ℕ → Result B FormFault) (Q : B → Type 0) → ((p : ℕ × ℕ) → IsSceneNumber p.0 → IfOk (f p) Q) → IfOk (taken scene_at key d place >>= f) Q
scene_first = first_taken scene_at IsSceneNumber scene_in_range

pub number_first : {B : Type 0} (key : List ℕ) (d : Data) (place : ℕ) (f : ℕ × ℕ → Result B FormFault) (Q : B → Type 0) → ((p : ℕ × ℕ) → IsNumber p.0 → IfOk (f p) Q) → IfOk (taken number_at key d place >>= f) Q
number_first = first_taken number_at IsNumber number_in_range

add_object_fits : (place : ℕ) (d : Data) → IfOk (add_object_at place d) IsEdit
unfolding add_object_at
add_object_fits place d = search (scene_first, number_first, first_any) depth 12

remove_object_fits : (place : ℕ) (d : Data) → IfOk (remove_object_at place d) IsEdit
unfolding remove_object_at
remove_object_fits place d = search (scene_first, number_first, first_any) depth 12

set_parent_fits : (place : ℕ) (d : Data) → IfOk (set_parent_at place d) IsEdit
unfolding set_parent_at
set_parent_fits place d = search (scene_first, number_first, first_any) depth 12

set_section_fits : (place : ℕ) (d : Data) → IfOk (set_section_at place d) IsEdit
unfolding set_section_at
set_section_fits place d = search (scene_first, number_first, first_any) depth 12

put_component_fits : (place : ℕ) (d : Data) → IfOk (put_component_at place d) IsEdit
unfolding put_component_at
put_component_fits place d = search (scene_first, number_first, first_any) depth 12

remove_component_fits : (place : ℕ) (d : Data) → IfOk (remove_component_at place d) IsEdit
unfolding remove_component_at
remove_component_fits place d = search (scene_first, number_first, first_any) depth 12

set_field_fits : (place : ℕ) (d : Data) → IfOk (set_field_at place d) IsEdit
unfolding set_field_at
set_field_fits place d = search (scene_first, number_first, first_any) depth 12

put_asset_fits : (place : ℕ) (d : Data) → IfOk (put_asset_at place d) IsEdit
unfolding put_asset_at
put_asset_fits place d = search (scene_first, number_first, first_any) depth 12

set_asset_field_fits : (place : ℕ) (d : Data) → IfOk (set_asset_field_at place d) IsEdit
unfolding set_asset_field_at
set_asset_field_fits place d = search (scene_first, number_first, first_any) depth 12

scene_alone_fits : (place : ℕ) (d : Data) → IfOk (scene_alone_at place d) IsSceneNumber
unfolding scene_alone_at
scene_alone_fits place d = search (scene_first, first_any) depth 12

asset_alone_fits : (place : ℕ) (d : Data) → IfOk (asset_alone_at place d) IsNumber
unfolding asset_alone_at
asset_alone_fits place d = search (number_first, first_any) depth 12

-- the edit of each word
pub members_fit : (w : Word) (place : ℕ) (d : Data) → IfOk (members_as w place d) IsEdit
members_fit word.AddScene place d = first_read (scene_alone_at place d) (λ s. Ok (edit.AddScene s)) IsSceneNumber IsEdit (scene_alone_fits place d) (λ s fits. fits)
members_fit word.RemoveScene place d = first_read (scene_alone_at place d) (λ s. Ok (edit.RemoveScene s)) IsSceneNumber IsEdit (scene_alone_fits place d) (λ s fits. fits)
members_fit word.AddObject place d = add_object_fits place d
members_fit word.RemoveObject place d = remove_object_fits place d
members_fit word.SetParent place d = set_parent_fits place d
members_fit word.SetSection place d = set_section_fits place d
members_fit word.PutComponent place d = put_component_fits place d
members_fit word.RemoveComponent place d = remove_component_fits place d
members_fit word.SetField place d = set_field_fits place d
members_fit word.PutAsset place d = put_asset_fits place d
members_fit word.RemoveAsset place d = first_read (asset_alone_at place d) (λ n. Ok (edit.RemoveAsset n)) IsNumber IsEdit (asset_alone_fits place d) (λ n fits. fits)
members_fit word.SetAssetField place d = set_asset_field_fits place d
