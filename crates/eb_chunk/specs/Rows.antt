-- A chunk as a list of rows.
use Rattle.std.specs.Prelude.{◌≡◌, ◌<◌, ◌-◌, ℕ, List, [], ◌∷◌, ◌++◌, length, map, take, drop, get_or, slice_index_or, slice_set, pos}
use Rattle.std.specs.List.{range_with_len}
use Rattle.eb_base.specs.declared.names.Entity.{Entity}
use Rattle.eb_base.specs.declared.names.Name.{Name}
use Rattle.eb_schema.specs.declared.layouts.Column.{Column}
use Rattle.eb_schema.specs.declared.slots.Slot.{Slot}
use Rattle.eb_schema.specs.declared.slots.Slot.TheVariants.{Num, Link}
use Rattle.std.specs.Prelude.{Option, Some, None}
use Rattle.eb_schema.specs.declared.kinds.Kind.{Kind}
use Rattle.eb_schema.specs.declared.kinds.Kind.TheVariants.{I8, I16, I32, I64, Fix, Ref, Asset}
use Rattle.eb_schema.specs.Layouts.{widths, capacity, column_at, find_column}
use Rattle.eb_schema.specs.Slots.{Fits, slot_of, entity_in, name_in}
use Rattle.eb_chunk.specs.Cells.{cells_at}

-- what a row has: its entity, its name, and a value for each column
pub record RowValue : Type 0 where
  pub entity : Entity
  pub name : Name
  pub slots : List Slot

-- the values of the cells behind entity and name
abbrev pub slots_of : List Column → List (List ℕ) → List Slot
slots_of [] cells = []
slots_of (c ∷ cs) [] = []
slots_of (c ∷ cs) (cell ∷ cells) = slot_of c.holds cell ∷ slots_of cs cells

abbrev pub row_value : List Column → List (List ℕ) → RowValue
row_value cs cells = record { entity = entity_in (get_or cells 0 []); name = name_in (get_or cells 1 []); slots = slots_of cs (drop 2 cells) }

-- what stands in the place of row r
abbrev pub row_at : List Column → List ℕ → ℕ → RowValue
row_at cs bs r = row_value cs (cells_at (widths cs) (capacity cs) 0 bs r)

-- what stands in the places of all rows that a block has room for
unfoldable pub table : List Column → List ℕ → List RowValue
table cs bs = map (row_at cs bs) (range_with_len 0 (capacity cs))

-- a chunk: the bytes of its block, and how many rows it has
pub record Held : Type 0 where
  pub bytes : List ℕ
  pub len : ℕ

abbrev pub held : List ℕ → ℕ → Held
held bytes len = record { bytes = bytes; len = len }

-- the rows of a chunk of this layout
abbrev pub rows : List Column → Held → List RowValue
rows cs chunk = take chunk.len (table cs chunk.bytes)

abbrev pub no_row : RowValue
no_row = record { entity = record { index = 0; serial = 0 }; name = record { play = 0; scene = 0; object = 0; extra = 0 }; slots = [] }

abbrev pub no_slot : Slot
no_slot = Num (pos 0)

abbrev pub row_of : Entity → Name → List Slot → RowValue
row_of e n slots = record { entity = e; name = n; slots = slots }

-- a row with another value in one column
abbrev pub with_slot : RowValue → ℕ → Slot → RowValue
with_slot row c s = row_of row.entity row.name (slice_set row.slots c s)

abbrev pub row_in : List RowValue → ℕ → RowValue
row_in list r = slice_index_or list r no_row

-- rows with another value in one column of one row
abbrev pub slot_set : List RowValue → ℕ → ℕ → Slot → List RowValue
slot_set list r c s = slice_set list r (with_slot (row_in list r) c s)

-- rows with another entity, or another name, in one row
abbrev pub entity_set : List RowValue → ℕ → Entity → List RowValue
entity_set list r e = slice_set list r (row_of e (row_in list r).name (row_in list r).slots)

abbrev pub name_set : List RowValue → ℕ → Name → List RowValue
name_set list r n = slice_set list r (row_of (row_in list r).entity n (row_in list r).slots)

-- n rows without row r, in whose place the last one stands
abbrev pub without_row : ℕ → List RowValue → ℕ → List RowValue
without_row n list r = take (n - 1) (slice_set list r (row_in list (n - 1)))

abbrev pub slot_in : List RowValue → ℕ → ℕ → Slot
slot_in list r c = slice_index_or (row_in list r).slots c no_slot

-- a value for each column, each of which fits
pub record AreSlots (cs : List Column) (slots : List Slot) : Type 0 where
  pub size : length slots ≡ length cs
  pub fit : (c : ℕ) → c < length cs → Fits (column_at cs c).holds (slice_index_or slots c no_slot)

-- the value of nothing, of a kind
abbrev pub zero_of : Kind → Slot
zero_of I8 = Num (pos 0)
zero_of I16 = Num (pos 0)
zero_of I32 = Num (pos 0)
zero_of I64 = Num (pos 0)
zero_of Fix = Num (pos 0)
zero_of Ref = Link (record { index = 0; serial = 0 })
zero_of Asset = Num (pos 0)

abbrev pub slot_or_zero : Option ℕ → RowValue → Kind → Slot
slot_or_zero None row k = zero_of k
slot_or_zero (Some c) row k = slice_index_or row.slots c no_slot

-- the column of the same field
abbrev pub counterpart : Column → List Column → Option ℕ
counterpart c old = find_column c.kind c.field 0 old

-- what a row of the columns `old` has in this column: its value in the column of the same field, or nothing
abbrev pub carried_slot : List Column → RowValue → Column → Slot
carried_slot old row c = slot_or_zero (counterpart c old) row c.holds

-- a row of the columns `old` in the columns cs
abbrev pub carried : List Column → List Column → RowValue → RowValue
carried cs old row = row_of row.entity row.name (map (carried_slot old row) cs)

-- rows of the columns cs, and behind them, or in the place of row r, a row of others of the columns `old`
abbrev pub with_carried : List Column → List Column → List RowValue → List RowValue → ℕ → List RowValue
with_carried cs old list others from = list ++ carried cs old (row_in others from) ∷ []

abbrev pub carried_set : List Column → List Column → List RowValue → ℕ → List RowValue → ℕ → List RowValue
carried_set cs old list r others from = slice_set list r (carried cs old (row_in others from))

-- a field that both have holds the same in both
abbrev pub Alike : List Column → List Column → Type 0
Alike cs old = (c k : ℕ) → c < length cs → counterpart (column_at cs c) old ≡ Some k → (column_at old k).holds ≡ (column_at cs c).holds
