-- Edits one after another, and the edits of a project's own document, which make it of the schema alone.
use Rattle.std.specs.Prelude.{ℕ, ◌+◌, pos, List, [], ◌∷◌, ◌++◌, map, flat_map, Option, Some, None, option_map, Result, Ok, Err}
use Rattle.std.specs.Option.{unwrap_or}
use Rattle.std.specs.BTreeMap.{insert_entry}
use Rattle.std.specs.Ordering.{nat_cmp}
use Rattle.std.specs.Cmp.Lexicographic.{slice_cmp}
use Rattle.eb_schema.specs.declared.kinds.Kind.{Kind}
use Rattle.eb_schema.specs.declared.kinds.Kind.TheVariants.{Fix}
use Rattle.eb_schema.specs.declared.kinds.Field.{Field}
use Rattle.eb_schema.specs.Schemas.{Types, authoring_of}
use Rattle.eb_scene.specs.declared.objects.Object.{Object}
use Rattle.eb_scene.specs.declared.objects.Part.{Part}
use Rattle.eb_scene.specs.declared.objects.Given.{Given}
use Rattle.eb_scene.specs.declared.objects.Given.TheVariants as given
use Rattle.eb_scene.specs.declared.edits.Edit.{Edit}
use Rattle.eb_scene.specs.declared.edits.Edit.TheVariants as edit
use Rattle.eb_scene.specs.declared.edits.EditFault.{EditFault}
use Rattle.eb_scene.specs.declared.edits.Raw.{Raw}
use Rattle.eb_scene.specs.declared.edits.Raw.TheVariants.{Int, Units, Null}
use Rattle.eb_scene.specs.declared.edits.RawField.{RawField}
use Rattle.eb_scene.specs.Projects.{Content, Objects}
use Rattle.eb_scene.specs.Edits.{edited}

-- ---- edits one after another

-- the rest, after the edit of this index
abbrev pub after_edit : ℕ → Result Content EditFault → (Content → Result Content (ℕ × EditFault)) → Result Content (ℕ × EditFault)
after_edit index (Ok g) rest = rest g
after_edit index (Err e) rest = Err (index, e)

-- The project after all edits, the first of which has this index; or else the index of the first one that is
-- refused, and the rule that it breaks.
abbrev pub all_edited : ℕ → Content → List Edit → Result Content (ℕ × EditFault)
all_edited index g [] = Ok g
all_edited index g (e ∷ es) = after_edit index (edited g e) (λ h. all_edited (index + 1) h es)

-- the project of the same schema without scenes and assets
abbrev pub emptied : Content → Content
emptied g = record { schema = g.schema; scenes = []; assets = [] }

-- ---- names in the order of a document

-- a list in order of names, with these put in one after another; of equal names the last stands
abbrev pub with_names : {X : Type 0} → List (List ℕ × X) → List (List ℕ × X) → List (List ℕ × X)
with_names xs [] = xs
with_names xs (y ∷ ys) = with_names (insert_entry (slice_cmp nat_cmp) xs y.0 y.1) ys

-- things under names, in ascending order of the names' bytes
abbrev pub by_key : {X : Type 0} → List (List ℕ × X) → List (List ℕ × X)
by_key xs = with_names [] xs

-- ---- values as a document writes them

-- a value in a field of the kind: a number in fixed units where the field is a fixed-point one, and otherwise as a
-- whole number; an object and an asset as their numbers
abbrev pub written_as : Kind → Given → Raw
written_as Fix (given.Num z) = Units z
written_as kind (given.Num z) = Int z
written_as kind (given.Object n) = Int (pos n)
written_as kind (given.Asset n) = Int (pos n)
written_as kind given.Null = Null

-- the values under the names of their fields
abbrev pub named_values : List Field → List Given → List (List ℕ × Raw)
named_values [] vs = []
named_values (f ∷ fs) [] = []
named_values (f ∷ fs) (v ∷ vs) = (f.name, written_as f.kind v) ∷ named_values fs vs

abbrev pub raw_field : List ℕ × Raw → RawField
raw_field r = record { name = r.0; value = r.1 }

-- the values of all fields, in order of the names
abbrev pub written_fields : List Field → List Given → List RawField
written_fields fields values = map raw_field (by_key (named_values fields values))

-- ---- components as a document writes them

-- the name of an authoring type
abbrev pub type_name : Types → ℕ → List ℕ
type_name types kind = unwrap_or (option_map (λ a. a.name) (authoring_of types kind)) []

-- the fields of an authoring type
abbrev pub type_fields : Types → ℕ → List Field
type_fields types kind = unwrap_or (option_map (λ a. a.fields) (authoring_of types kind)) []

-- a component under the name of its type
abbrev pub named_part : Types → Part → List ℕ × List RawField
named_part types p = (type_name types p.kind, written_fields (type_fields types p.kind) p.values)

-- the components of an object, in order of the names of their types
abbrev pub written_parts : Types → List Part → List (List ℕ × List RawField)
written_parts types parts = by_key (map (named_part types) parts)

-- ---- the edits of a document

abbrev pub asset_edits : Content → List Edit
asset_edits g = map (λ a. edit.PutAsset a.0 (written_fields g.schema.assets a.1)) g.assets

-- each object, without parent and components
abbrev pub object_edits : ℕ → Objects → List Edit
object_edits s es = map (λ e. edit.AddObject s e.0 None e.1.mark) es

abbrev pub parent_edit : ℕ → ℕ → Option ℕ → List Edit
parent_edit s n None = []
parent_edit s n (Some p) = edit.SetParent s n (Some p) ∷ []

-- each object that stands below another one
abbrev pub parent_edits : ℕ → Objects → List Edit
parent_edits s es = flat_map (λ e. parent_edit s e.0 e.1.parent) es

abbrev pub part_edits : Types → ℕ → ℕ → Object → List Edit
part_edits types s n o = map (λ p. edit.PutComponent s n p.0 p.1) (written_parts types o.components)

-- each component of each object
abbrev pub component_edits : Types → ℕ → Objects → List Edit
component_edits types s es = flat_map (λ e. part_edits types s e.0 e.1) es

abbrev pub scene_edits : Types → ℕ × Objects → List Edit
scene_edits types s = edit.AddScene s.0 ∷ object_edits s.0 s.1 ++ (parent_edits s.0 s.1 ++ component_edits types s.0 s.1)

-- the edits that the document of a project stands for, in its order
abbrev pub edits_of : Content → List Edit
edits_of g = asset_edits g ++ flat_map (scene_edits g.schema) g.scenes
