-- The bytes of a section file, as a relation between whole texts and images, and as a function.
use Rattle.std.specs.Prelude.{◌≡◌, ℕ, ◌+◌, Option, List, [], ◌∷◌, ◌++◌, length, map, filter, find, flat_map, slice_get, nat_eq, ◌==◌, codes, option_map, option_and_then, unwrap_or}
use Rattle.std.specs.Int.{w8, w16, w32, w64, cast_unsigned, to_le_bytes}
use Rattle.std.specs.List.{enumerate_from, position_or_len}
use Rattle.std.specs.Ordering.{nat_cmp, eq_by_cmp}
use Rattle.std.specs.Cmp.Lexicographic.{pointwise, slice_cmp}
use Rattle.std.specs.declared.cmp.Ordering.{Ordering}
use Rattle.eb_base.specs.declared.names.Name.{Name}
use Rattle.eb_base.specs.declared.names.Place.{Place}
use Rattle.eb_schema.specs.declared.kinds.Kind.{Kind}
use Rattle.eb_schema.specs.declared.kinds.Kind.TheVariants.{I8, I16, I32, I64, Fix, Ref, Asset}
use Rattle.eb_schema.specs.declared.kinds.Field.{Field}
use Rattle.eb_schema.specs.Schemas.{Types, component_of}
use Rattle.eb_file.specs.declared.images.Link.{Link}
use Rattle.eb_file.specs.declared.images.Link.TheVariants.{Local, Zero, Null}
use Rattle.eb_file.specs.declared.images.Stored.{Stored}
use Rattle.eb_file.specs.declared.images.Stored.TheVariants as stored
use Rattle.eb_file.specs.declared.images.ImageRow.{ImageRow}
use Rattle.eb_file.specs.declared.images.Image.{Image}
use Rattle.eb_file.specs.Ascending.{IsEachOnce, each_once}
use Rattle.eb_file.specs.Images.{name_cmp, names_of, types_of, zero_names, externals_of}

-- the order of lists of type numbers: item by item, a proper prefix first
abbrev pub types_cmp : List ℕ → List ℕ → Ordering
types_cmp = slice_cmp nat_cmp

-- the rows that have just these types
abbrev pub rows_with : List ImageRow → List ℕ → List ImageRow
rows_with rows types = filter (λ row. pointwise nat_eq (types_of row) types) rows

-- What references are counted by: the names of the file's rows, over all archetypes, and the externals.
pub record Numbers : Type 0 where
  pub rows : List Name
  pub externals : List Name

-- a reference as a number: 0 is none, then come the rows from 1 on, and then the externals
abbrev pub number_of : Numbers → Link → ℕ
number_of numbers (Local name) = position_or_len (eq_by_cmp name_cmp name) numbers.rows + 1
number_of numbers (Zero name) = length numbers.rows + position_or_len (eq_by_cmp name_cmp name) numbers.externals + 1
number_of numbers Null = 0

-- a value in the width of its kind
abbrev pub value_bytes : Numbers → Kind → Stored → List ℕ
value_bytes numbers I8 (stored.Num n) = to_le_bytes w8 (cast_unsigned w8 n)
value_bytes numbers I16 (stored.Num n) = to_le_bytes w16 (cast_unsigned w16 n)
value_bytes numbers I32 (stored.Num n) = to_le_bytes w32 (cast_unsigned w32 n)
value_bytes numbers I64 (stored.Num n) = to_le_bytes w64 (cast_unsigned w64 n)
value_bytes numbers Fix (stored.Num n) = to_le_bytes w64 (cast_unsigned w64 n)
value_bytes numbers Ref (stored.Link link) = to_le_bytes w32 (number_of numbers link)
value_bytes numbers Ref (stored.Num n) = []
value_bytes numbers Asset value = []
value_bytes numbers kind (stored.Link link) = []

-- the value of a row's type at a field
abbrev pub value_at : ℕ → ℕ → ImageRow → Option Stored
value_at type index row = option_and_then (λ cell. slice_get cell.values index) (find (λ cell. cell.kind == type) row.cells)

-- the values of one field of a type, row by row
abbrev pub column : Numbers → List ImageRow → ℕ → ℕ × Field → List ℕ
column numbers rows type field =
    flat_map (λ row. unwrap_or (option_map (value_bytes numbers field.1.kind) (value_at type field.0 row)) []) rows

-- the fields of a type, each with its index
abbrev pub fields_of : Types → ℕ → List (ℕ × Field)
fields_of types type = enumerate_from 0 (unwrap_or (option_map (λ c. c.fields) (component_of types type)) [])

abbrev pub name_bytes : Name → List ℕ
name_bytes name = to_le_bytes w32 name.object ++ to_le_bytes w32 name.extra

-- the types, the names of the rows with them, and the columns of each type
abbrev pub archetype : Types → Numbers → List ImageRow → List ℕ → List ℕ
archetype types numbers rows kinds =
    length kinds ∷ kinds
    ++ to_le_bytes w32 (length (rows_with rows kinds))
    ++ flat_map name_bytes (names_of (rows_with rows kinds))
    ++ flat_map (λ type. flat_map (column numbers (rows_with rows kinds) type) (fields_of types type)) kinds

abbrev pub header : Place → ℕ → ℕ → ℕ → List ℕ
header place archetypes rows externals =
    codes "EBSF" ++ to_le_bytes w16 1 ++ place.scene ∷ place.section ∷ []
    ++ to_le_bytes w32 archetypes ++ to_le_bytes w32 rows ++ to_le_bytes w32 externals

-- header, archetypes and externals, end to end
abbrev pub text_of : Types → Image → List (List ℕ) → List Name → List ℕ
text_of types image archetypes externals =
    let numbers : Numbers = record { rows = names_of (flat_map (rows_with image.rows) archetypes); externals = externals } in
    header image.place (length archetypes) (length image.rows) (length externals)
    ++ flat_map (archetype types numbers image.rows) archetypes
    ++ flat_map name_bytes externals

-- The bytes spell the image: its archetypes are the different lists of types that rows have, ascending,
-- and its externals are the names in section 0 that rows lead to, ascending.
pub record Spells (types : Types) (bytes : List ℕ) (image : Image) : Type 0 where
  pub archetypes : List (List ℕ)
  pub externals : List Name
  pub each_archetype : IsEachOnce types_cmp archetypes (map types_of image.rows)
  pub each_external : IsEachOnce name_cmp externals (zero_names image.rows)
  pub text : bytes ≡ text_of types image archetypes externals

-- the one spelling of an image
unfoldable pub spelling : Types → Image → List ℕ
spelling types image =
    text_of types image (each_once types_cmp (map types_of image.rows)) (externals_of image.rows)
