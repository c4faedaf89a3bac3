-- The canonical document of a project, and its text.
use Rattle.std.specs.Prelude.{ℕ, ℤ, List, [], ◌∷◌, ◌++◌, flat_map, codes, Option, Some, None}
use Rattle.std.specs.Map.{keys_of}
use Rattle.serde_json.specs.Data.{Data, null, number, string, array, object, unsigned, Members, no_members, put}
use Rattle.serde_json.specs.Find.{of_integer}
use Rattle.serde_json.specs.View.{items_of}
use Rattle.serde_json.specs.Written.{compact_text}
use Rattle.eb_base.specs.FixedPoint.{fixed_text}
use Rattle.eb_schema.specs.declared.kinds.Kind.{Kind}
use Rattle.eb_schema.specs.declared.kinds.Kind.TheVariants.{I8, I16, I32, I64, Fix, Ref, Asset}
use Rattle.eb_schema.specs.declared.kinds.Field.{Field}
use Rattle.eb_schema.specs.declared.kinds.Authoring.{Authoring}
use Rattle.eb_schema.specs.Schemas.{Types, authoring_of}
use Rattle.eb_scene.specs.declared.objects.Given.{Given}
use Rattle.eb_scene.specs.declared.objects.Given.TheVariants as given
use Rattle.eb_scene.specs.declared.objects.Part.{Part}
use Rattle.eb_scene.specs.declared.objects.Object.{Object}
use Rattle.eb_scene.specs.Projects.{Content, numbered, Objects}

-- ---- values

-- a number in a field of a kind
abbrev pub number_data : Kind → ℤ → Data
number_data Fix z = string (fixed_text z)
number_data I8 z = number (of_integer z)
number_data I16 z = number (of_integer z)
number_data I32 z = number (of_integer z)
number_data I64 z = number (of_integer z)
number_data Ref z = number (of_integer z)
number_data Asset z = number (of_integer z)

abbrev pub value_data : Kind → Given → Data
value_data kind (given.Num z) = number_data kind z
value_data kind (given.Object n) = number (unsigned n)
value_data kind (given.Asset n) = number (unsigned n)
value_data kind given.Null = null

-- members, and then a value for each field under its name. Members stay ascending by key
abbrev pub with_fields : Members → List Field → List Given → Members
with_fields ms [] values = ms
with_fields ms (f ∷ fs) [] = ms
with_fields ms (f ∷ fs) (v ∷ vs) = with_fields (put f.name (value_data f.kind v) ms) fs vs

abbrev pub fields_data : List Field → List Given → Data
fields_data fields values = object (with_fields no_members fields values)

-- a number, or null
abbrev pub number_or_null : Option ℕ → Data
number_or_null None = null
number_or_null (Some n) = number (unsigned n)

-- ---- objects

-- members, and then a component under the name of its type
abbrev pub with_part_as : Members → List Given → Option Authoring → Members
with_part_as ms values None = ms
with_part_as ms values (Some a) = put a.name (fields_data a.fields values) ms

abbrev pub with_parts : Types → Members → List Part → Members
with_parts types ms [] = ms
with_parts types ms (p ∷ ps) = with_parts types (with_part_as ms p.values (authoring_of types p.kind)) ps

unfoldable pub object_data : Types → ℕ → Object → Data
object_data types n o =
    object (put (codes "section") (number_or_null o.mark) (put (codes "parent") (number_or_null o.parent) (put (codes "number") (number (unsigned n)) (put (codes "components") (object (with_parts types no_members o.components)) no_members))))

-- ---- lists, of what is there under these numbers

abbrev pub if_there : {X : Type 0} → (X → Data) → Option X → List Data
if_there f None = []
if_there f (Some x) = f x ∷ []

unfoldable pub object_found : Types → Objects → ℕ → List Data
object_found types es n = if_there (object_data types n) (numbered es n)

abbrev pub objects_data : Types → Objects → Data
objects_data types es = array (items_of (flat_map (object_found types es) (keys_of es)))

unfoldable pub scene_data : Types → ℕ → Objects → Data
scene_data types s es = object (put (codes "objects") (objects_data types es) (put (codes "number") (number (unsigned s)) no_members))

unfoldable pub scene_found : Content → ℕ → List Data
scene_found g s = if_there (scene_data g.schema s) (numbered g.scenes s)

unfoldable pub asset_data : Types → ℕ → List Given → Data
asset_data types n values = object (put (codes "number") (number (unsigned n)) (put (codes "fields") (fields_data types.assets values) no_members))

unfoldable pub asset_found : Content → ℕ → List Data
asset_found g n = if_there (asset_data g.schema n) (numbered g.assets n)

-- ---- the whole

-- the numbers that scenes may have
unfoldable pub scene_numbers : List ℕ
scene_numbers = 1 ∷ 2 ∷ 3 ∷ 4 ∷ 5 ∷ 6 ∷ 7 ∷ 8 ∷ 9 ∷ 10 ∷ 11 ∷ 12 ∷ 13 ∷ 14 ∷ 15 ∷ 16 ∷ []

abbrev pub assets_data : Content → Data
assets_data g = array (items_of (flat_map (asset_found g) (keys_of g.assets)))

abbrev pub scenes_data : Content → Data
scenes_data g = array (items_of (flat_map (scene_found g) scene_numbers))

-- the document of a project: assets, scenes and objects ascending by number, every field present. Members are put in
-- their order
unfoldable pub document : Content → Data
document g = object (put (codes "scenes") (scenes_data g) (put (codes "assets") (assets_data g) no_members))

-- its text without spaces, and a line feed
unfoldable pub canonical : Content → List ℕ
canonical g = compact_text (document g) ++ 10 ∷ []
