-- How rows lie in a block: columns one after the other, without a gap, each with as many places as there are rows.
use Rattle.std.specs.Prelude.{◌≡◌, ◌≤◌, ◌<◌, ◌+◌, ◌*◌, ◌/◌, ◌==◌, ◌&&◌, ℕ, List, [], ◌∷◌, ◌++◌, length, map, min, get_or, slice_index_or, Option, Some, None, if◌then◌else◌}
use Rattle.std.specs.List.Sorted.{IsStrictlySortedBy}
use Rattle.std.specs.Ordering.{nat_cmp, ordering_then}
use Rattle.std.specs.declared.cmp.Ordering.{Ordering}
use Rattle.eb_schema.specs.declared.kinds.Field.{Field}
use Rattle.eb_schema.specs.declared.kinds.Component.{Component}
use Rattle.eb_schema.specs.declared.kinds.Kind.TheVariants.{Asset}
use Rattle.eb_schema.specs.declared.layouts.Column.{Column}
use Rattle.eb_schema.specs.Schemas.{Types, component_of}
use Rattle.eb_schema.specs.Slots.{width}

-- a column for each field of a type, counted from i
abbrev pub columns_from : ℕ → ℕ → List Field → List Column
columns_from kind i [] = []
columns_from kind i (f ∷ fs) = record { kind = kind; field = i; holds = f.kind } ∷ columns_from kind (i + 1) fs

abbrev pub columns_of_found : ℕ → Option Component → List Column
columns_of_found kind None = []
columns_of_found kind (Some component) = columns_from kind 0 component.fields

-- those of a type of the schema; none, if it has no such type
abbrev pub columns_of_type : Types → ℕ → List Column
columns_of_type types kind = columns_of_found kind (component_of types kind)

-- those of these types
abbrev pub columns_of : Types → List ℕ → List Column
columns_of types [] = []
columns_of types (kind ∷ kinds) = columns_of_type types kind ++ columns_of types kinds

-- the widths of all columns: the entities', the names', and those of the fields
abbrev pub widths : List Column → List ℕ
widths columns = 12 ∷ (16 ∷ map (λ c. width c.holds) columns)

abbrev pub total : List ℕ → ℕ
total [] = 0
total (w ∷ ws) = w + total ws

-- the bytes of a row
unfoldable pub row_bytes : List Column → ℕ
row_bytes columns = total (widths columns)

-- the rows of a block
unfoldable pub capacity : List Column → ℕ
capacity columns = min 128 (16384 / row_bytes columns)

-- where columns of these widths start, of n places each, the first at `at`
abbrev pub starts_from : ℕ → ℕ → List ℕ → List ℕ
starts_from n at [] = []
starts_from n at (w ∷ ws) = at ∷ starts_from n (at + n * w) ws

unfoldable pub starts : List Column → List ℕ
starts columns = starts_from (capacity columns) 0 (widths columns)

-- where the column for a field starts, behind those of the entities and of the names
abbrev pub start_of : List Column → ℕ → ℕ
start_of columns c = get_or (starts columns) (c + 2) 0

abbrev pub no_column : Column
no_column = record { kind = 0; field = 0; holds = Asset }

abbrev pub column_at : List Column → ℕ → Column
column_at columns c = slice_index_or columns c no_column

-- the first column for a field of a type, counted from i
abbrev pub find_column : ℕ → ℕ → ℕ → List Column → Option ℕ
find_column kind field i [] = None
find_column kind field i (c ∷ cs) = if (c.kind == kind) && (c.field == field) then Some i else find_column kind field (i + 1) cs

-- columns are ordered by type, and those of one type by field
abbrev pub field_cmp : Column → ℕ → ℕ → Ordering
field_cmp c kind field = ordering_then (nat_cmp c.kind kind) (nat_cmp c.field field)

abbrev pub column_cmp : Column → Column → Ordering
column_cmp a b = field_cmp a b.kind b.field

-- a layout knows where its columns start, and has at most 16 for each of at most 32 types, in order, and room for a row
pub record IsLayout (columns : List Column) (firsts : List ℕ) (bytes rows : ℕ) : Type 0 where
  pub few : length columns ≤ 512
  pub order : IsStrictlySortedBy column_cmp columns
  pub row : bytes ≡ row_bytes columns
  pub room : rows ≡ capacity columns
  pub some : 0 < rows
  pub places : firsts ≡ starts columns

-- the first byte of a column and the one behind its last, where 0 is the entities' column and 1 the names'
abbrev pub first_of : List Column → ℕ → ℕ
first_of columns c = get_or (starts columns) c 0

abbrev pub end_of : List Column → ℕ → ℕ
end_of columns c = first_of columns c + capacity columns * get_or (widths columns) c 0

-- each column has a place for every row and ends in the block, and begins no earlier than those before it end
pub record LieApart (columns : List Column) : Type 0 where
  pub within : (c : ℕ) → c < length (widths columns) → end_of columns c ≤ 16384
  pub apart : (c d : ℕ) → c < d → d < length (widths columns) → end_of columns c ≤ first_of columns d
