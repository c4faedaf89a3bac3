-- The form of a project's document, the edits that it stands for, and the project that these make.
use Rattle.std.specs.Prelude.{ℕ, ◌-◌, ◌^◌, min, List, [], ◌∷◌, ◌++◌, map, flat_map, codes, Option, Some, None, Result, Ok, Err}
use Rattle.serde_json.specs.Data.{Data}
use Rattle.eb_json.specs.declared.faults.FormFault.{FormFault}
use Rattle.eb_json.specs.Places.{further}
use Rattle.eb_json.specs.Forms.{◌>>=◌, object_at, list_at}
use Rattle.eb_schema.specs.Schemas.{Types}
use Rattle.eb_scene.specs.declared.edits.Edit.{Edit}
use Rattle.eb_scene.specs.declared.edits.Edit.TheVariants as edit
use Rattle.eb_scene.specs.declared.edits.EditFault.{EditFault}
use Rattle.eb_scene.specs.Projects.{Content}
use Rattle.eb_scene.specs.Rebuilding.{all_edited}
use Rattle.eb_scene_text.specs.declared.drafts.DraftAsset.{DraftAsset}
use Rattle.eb_scene_text.specs.declared.drafts.DraftPart.{DraftPart}
use Rattle.eb_scene_text.specs.declared.drafts.DraftObject.{DraftObject}
use Rattle.eb_scene_text.specs.declared.drafts.DraftScene.{DraftScene}
use Rattle.eb_scene_text.specs.declared.drafts.DraftProject.{DraftProject}
use Rattle.eb_scene_text.specs.declared.faults.ProjectFault.{ProjectFault}
use Rattle.eb_scene_text.specs.declared.faults.ProjectFault.TheVariants.{Rule}
use Rattle.eb_scene_text.specs.Values.{scene_at, number_at, above_at, mark_at, fields_at, each_member_at, taken}
use Rattle.eb_scene_text.specs.ReadFaults.{read_as}

-- ---- the form

unfoldable pub draft_asset_at : ℕ → Data → Result DraftAsset FormFault
draft_asset_at place d = do
  whole ← object_at (codes "fields" ∷ codes "number" ∷ []) place d
  fields ← taken fields_at (codes "fields") d (further place 1)
  n ← taken number_at (codes "number") d fields.1
  Ok (record { number = n.0; fields = fields.0 })

-- a component under the name of its type
abbrev pub draft_part_at : List ℕ → ℕ → Data → Result DraftPart FormFault
draft_part_at kind place d = do
  fields ← fields_at place d
  Ok (record { kind = kind; fields = fields })

-- the components of an object
unfoldable pub draft_parts_at : ℕ → Data → Result (List DraftPart) FormFault
draft_parts_at place d = each_member_at draft_part_at place d

unfoldable pub object_keys : List (List ℕ)
object_keys = codes "components" ∷ codes "number" ∷ codes "parent" ∷ codes "section" ∷ []

unfoldable pub draft_object_at : ℕ → Data → Result DraftObject FormFault
draft_object_at place d = do
  whole ← object_at object_keys place d
  components ← taken draft_parts_at (codes "components") d (further place 1)
  n ← taken number_at (codes "number") d components.1
  parent ← taken above_at (codes "parent") d n.1
  mark ← taken mark_at (codes "section") d parent.1
  Ok (record { number = n.0; parent = parent.0; section = mark.0; components = components.0 })

unfoldable pub draft_scene_at : ℕ → Data → Result DraftScene FormFault
draft_scene_at place d = do
  whole ← object_at (codes "number" ∷ codes "objects" ∷ []) place d
  s ← taken scene_at (codes "number") d (further place 1)
  objects ← taken (list_at draft_object_at) (codes "objects") d s.1
  Ok (record { number = s.0; objects = objects.0 })

-- the whole document
unfoldable pub draft_at : ℕ → Data → Result DraftProject FormFault
draft_at place d = do
  whole ← object_at (codes "assets" ∷ codes "scenes" ∷ []) place d
  assets ← taken (list_at draft_asset_at) (codes "assets") d (further place 1)
  scenes ← taken (list_at draft_scene_at) (codes "scenes") d assets.1
  Ok (record { assets = assets.0; scenes = scenes.0 })

-- ---- the edits that a document stands for

abbrev pub asset_edit : DraftAsset → Edit
asset_edit a = edit.PutAsset a.number a.fields

-- an object, at first below none
abbrev pub object_edit : ℕ → DraftObject → Edit
object_edit s o = edit.AddObject s o.number None o.section

abbrev pub parent_edits_of : ℕ → ℕ → Option ℕ → List Edit
parent_edits_of s n None = []
parent_edits_of s n (Some p) = edit.SetParent s n (Some p) ∷ []

abbrev pub parent_edits : ℕ → DraftObject → List Edit
parent_edits s o = parent_edits_of s o.number o.parent

abbrev pub part_edit : ℕ → ℕ → DraftPart → Edit
part_edit s n p = edit.PutComponent s n p.kind p.fields

abbrev pub part_edits : ℕ → DraftObject → List Edit
part_edits s o = map (part_edit s o.number) o.components

-- the scene and all its objects, then their parents, then their components
abbrev pub scene_edits : DraftScene → List Edit
scene_edits c = edit.AddScene c.number ∷ (map (object_edit c.number) c.objects ++ (flat_map (parent_edits c.number) c.objects ++ flat_map (part_edits c.number) c.objects))

abbrev pub draft_edits : DraftProject → List Edit
draft_edits p = map asset_edit p.assets ++ flat_map scene_edits p.scenes

-- ---- the project

-- the number of an edit: numbers end at 2 ^ 32 - 1
abbrev pub shown : ℕ → ℕ
shown index = min index (2 ^ 32 - 1)

-- what edits made, or the refusal of the first one that is refused
abbrev pub made_by : Result Content (ℕ × EditFault) → Result Content ProjectFault
made_by (Ok g) = Ok g
made_by (Err refused) = Err (Rule (shown refused.0) refused.1)

-- the project of a schema without scenes and assets
abbrev pub without_all : Types → Content
without_all types = record { schema = types; scenes = []; assets = [] }

-- the project that a document is, under a schema
unfoldable pub project_of : Types → Data → Result Content ProjectFault
project_of types d = do
  draft ← read_as (draft_at 0 d)
  made_by (all_edited 0 (without_all types) (draft_edits draft))
