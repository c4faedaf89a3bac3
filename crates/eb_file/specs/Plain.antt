-- Rows that have whole numbers of 64 bits alone, all in one component of type 1.
use Rattle.std.specs.Prelude.{◌≡◌, ℕ, ◌<◌, ℤ, FitsSigned, List, [], ◌∷◌, ◌++◌, length, map, All, IsSomeAnd, flat_map, option_map, unwrap_or}
use Rattle.std.specs.Int.{w32, w64, to_le_bytes}
use Rattle.std.specs.List.{range_with_len}
use Rattle.eb_base.specs.declared.names.Place.{Place}
use Rattle.eb_schema.specs.declared.kinds.Kind.TheVariants.{I64}
use Rattle.eb_schema.specs.declared.kinds.Mode.TheVariants.{Stored}
use Rattle.eb_schema.specs.declared.kinds.Component.{Component}
use Rattle.eb_schema.specs.Schemas.{Types, component_of}
use Rattle.eb_file.specs.declared.images.Stored.TheVariants as stored
use Rattle.eb_file.specs.declared.images.StoredCell.{StoredCell}
use Rattle.eb_file.specs.declared.images.ImageRow.{ImageRow}
use Rattle.eb_file.specs.Images.{names_of}
use Rattle.eb_file.specs.Spelling.{header, name_bytes, value_at, value_bytes}

-- the type is stored, and all its fields are whole numbers of 64 bits
abbrev pub IsNumberType : Component → Type 0
IsNumberType c = (c.mode ≡ Stored) × All (λ field. field.kind ≡ I64) c.fields

-- type 1 is stored, and all its fields are whole numbers of 64 bits
abbrev pub HasNumberType : Types → Type 0
HasNumberType types = IsSomeAnd (component_of types 1) IsNumberType

-- how many fields type 1 has
abbrev pub field_count : Types → ℕ
field_count types = length (unwrap_or (option_map (λ c. c.fields) (component_of types 1)) [])

-- the cells of a row with these numbers
abbrev pub number_cells : List ℤ → List StoredCell
number_cells numbers = record { kind = 1; values = map stored.Num numbers } ∷ []

-- the row of an object's own entity, with these numbers
abbrev pub numbers_row : ℕ → ℕ → List ℤ → ImageRow
numbers_row scene object numbers = record { name = record { play = 0; scene = scene; object = object; extra = 0 }; cells = number_cells numbers }

-- the same with one number
abbrev pub number_row : ℕ → ℕ → ℤ → ImageRow
number_row scene object number = numbers_row scene object (number ∷ [])

-- the row has so many numbers, and nothing else
pub record HoldsNumbers (count : ℕ) (row : ImageRow) : Type 0 where
  pub numbers : List ℤ
  pub cells : row.cells ≡ number_cells numbers
  pub long : length numbers ≡ count
  pub range : All (FitsSigned w64) numbers

-- the row has numbers alone, one of them at this field
pub record HasNumber (field : ℕ) (row : ImageRow) : Type 0 where
  pub numbers : List ℤ
  pub cells : row.cells ≡ number_cells numbers
  pub within : field < length numbers
  pub range : All (FitsSigned w64) numbers

-- the number of a row at a field as bytes
abbrev pub number_bytes : ℕ → ImageRow → List ℕ
number_bytes field row = unwrap_or (option_map (value_bytes (record { rows = []; externals = [] }) I64) (value_at 1 field row)) []

-- the numbers of one field, row by row
abbrev pub number_column : List ImageRow → ℕ → List ℕ
number_column rows field = flat_map (number_bytes field) rows

-- the columns of so many fields, from a field on
abbrev pub number_columns : List ImageRow → ℕ → ℕ → List ℕ
number_columns rows from count = flat_map (number_column rows) (range_with_len from count)

-- such rows as the one archetype that they are
abbrev pub number_archetype : ℕ → List ImageRow → List ℕ
number_archetype count rows = 1 ∷ 1 ∷ to_le_bytes w32 (length rows) ++ flat_map name_bytes (names_of rows) ++ number_columns rows 0 count

-- such rows as a whole file
abbrev pub number_text : Place → ℕ → List ImageRow → List ℕ
number_text place count [] = header place 0 0 0
number_text place count (row ∷ rows) = header place 1 (length (row ∷ rows)) 0 ++ number_archetype count (row ∷ rows)
