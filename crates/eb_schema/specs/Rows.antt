-- Rows and sets of types. A row is what one entity has: cells in ascending order of their types, one a type,
-- each with one value a field. A set of types is the list of their numbers in ascending order.
use Rattle.std.specs.Prelude.{◌≡◌, ◌≤◌, ◌==◌, ◌||◌, ℕ, List, [], ◌∷◌, length, map, find, Bool, cond, nat_le, nat_lt, if◌then◌else◌, Option, is_some, Result, Ok, Err}
use Rattle.std.specs.List.Sorted.{IsStrictlySortedBy}
use Rattle.std.specs.Ordering.{nat_cmp, match_ordering}
use Rattle.eb_schema.specs.declared.rows.Cell.{Cell}
use Rattle.eb_schema.specs.declared.type_sets.TypeSetFault.{TypeSetFault}
use Rattle.eb_schema.specs.declared.type_sets.TypeSetFault.TheVariants.{Memory, TooMany}

-- most cells that a row has, and most types of a set
abbrev pub most_kinds : ℕ
most_kinds = 32

-- the list with x in place of the item of its number, or else before the first of a higher one
abbrev pub with_item : {X : Type 0} → (X → ℕ) → X → List X → List X
with_item kind x [] = x ∷ []
with_item kind x (y ∷ ys) = match_ordering (nat_cmp (kind x) (kind y)) (x ∷ y ∷ ys) (x ∷ ys) (y ∷ with_item kind x ys)

-- ---- rows

-- the types of a row
abbrev pub kinds_of : List Cell → List ℕ
kinds_of row = map (λ c. c.kind) row

-- the cell of a type
abbrev pub cell_of : List Cell → ℕ → Option Cell
cell_of row kind = find (λ c. c.kind == kind) row

-- the row with this cell, in place of the one of its type if there is one
abbrev pub with_cell : List Cell → Cell → List Cell
with_cell row cell = with_item (λ c. c.kind) cell row

-- whether a row can have the cell: its type is there, or there is room for one more
abbrev pub takes_cell : List Cell → Cell → Bool
takes_cell row cell = is_some (cell_of row cell.kind) || nat_lt (length row) most_kinds

-- the row after a cell is put into it, the same where it can't have it
abbrev pub put_cell : List Cell → Cell → List Cell
put_cell row cell = cond (takes_cell row cell) (with_cell row cell) row

-- ascending by type, each type once, and at most 32 cells
pub record IsRow (row : List Cell) : Type 0 where
  pub order : IsStrictlySortedBy nat_cmp (kinds_of row)
  pub few : length row ≤ most_kinds

-- ---- sets of types

-- the types of a list in ascending order, each once
abbrev pub type_set : List ℕ → List ℕ
type_set [] = []
type_set (k ∷ ks) = with_item (λ j. j) k (type_set ks)

-- ascending, each type once, and at most 32 types
pub record IsTypeSet (kinds : List ℕ) : Type 0 where
  pub order : IsStrictlySortedBy nat_cmp kinds
  pub few : length kinds ≤ most_kinds

-- the set of the types of a list, unless they are too many
abbrev pub type_set_of : List ℕ → Result (List ℕ) TypeSetFault
type_set_of kinds = if nat_le (length (type_set kinds)) most_kinds then Ok (type_set kinds) else Err TooMany

abbrev pub RefusesSet : TypeSetFault → Result (List ℕ) TypeSetFault → Type 0
RefusesSet Memory made = Unit {0}
RefusesSet TooMany made = made ≡ Err TooMany

-- What a call answered is what was to be made, unless memory ran out.
abbrev pub TellsSet : Result (List ℕ) TypeSetFault → Result (List ℕ) TypeSetFault → Type 0
TellsSet (Ok kinds) made = made ≡ Ok kinds
TellsSet (Err fault) made = RefusesSet fault made
