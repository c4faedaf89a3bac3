-- Rows that have numbers alone: what stands at a field, and the columns of their fields.
use Rattle.std.proofs.Common.{◌≡◌, ℕ, suc, ◌+◌, ◌-◌, ◌<◌, ℤ, pos, Option, Some, List, ◌++◌, length, map, get_or, ap, ◌∙◌, All, arith}
use Rattle.std.specs.Prelude.{FitsSigned, find, slice_get, option_map, option_and_then, ◌==◌}
use Rattle.std.specs.Int.{w64}
use Rattle.std.proofs.lemmas.Option.{get_or_from_slice_get, slice_get-map, slice_get-get_or}
use Rattle.eb_file.specs.declared.images.Stored.{Stored}
use Rattle.eb_file.specs.declared.images.Stored.TheVariants as stored
use Rattle.eb_file.specs.declared.images.StoredCell.{StoredCell}
use Rattle.eb_file.specs.declared.images.ImageRow.{ImageRow}
use Rattle.eb_file.specs.Plain.{HasNumber, HoldsNumbers, number_column, number_columns}
use Rattle.eb_file.specs.Spelling.{value_at}

-- ---- what stands at a field

-- the value of the cells of type 1 at a field
abbrev pub cells_at : ℕ → List StoredCell → Option Stored
cells_at field cells = option_and_then (λ cell. slice_get cell.values field) (find (λ cell. cell.kind == 1) cells)

pub number_in : (numbers : List ℤ) (field : ℕ) → field < length numbers → slice_get (map stored.Num numbers) field ≡ Some (stored.Num (get_or numbers field (pos 0)))
number_in numbers field within = slice_get-map stored.Num numbers field ∙ ap (option_map stored.Num) (slice_get-get_or numbers field (pos 0) within)

-- the number of such a row at a field
pub record IsAt (field : ℕ) (row : ImageRow) : Type 0 where
  pub number : ℤ
  pub value : value_at 1 field row ≡ Some (stored.Num number)
  pub range : FitsSigned w64 number

pub number_there : (count field : ℕ) (row : ImageRow) → field < count → HoldsNumbers count row → IsAt field row
number_there count field row within h =
    let inside : field < length h.numbers = omega (arith, within, h.long) in
    record {
      number = get_or h.numbers field (pos 0);
      value = ap (cells_at field) h.cells ∙ number_in h.numbers field inside;
      range = h.range field (pos 0) inside;
    }

pub has_number : (count field : ℕ) (row : ImageRow) → field < count → HoldsNumbers count row → HasNumber field row
has_number count field row within h = record { numbers = h.numbers; cells = h.cells; within = omega (arith, within, h.long); range = h.range }

pub have_numbers : (count field : ℕ) (rows : List ImageRow) → field < count → All (HoldsNumbers count) rows → All (HasNumber field) rows
have_numbers count field rows within all = λ k d lt. has_number count field (get_or rows k d) within (all k d lt)

-- what stands at a field of the values of the row's one cell
pub value_here : (field : ℕ) (row : ImageRow) (cells : List StoredCell) (cell : StoredCell) (values : List Stored) (h : HasNumber field row) → cells ≡ row.cells → cell ≡ get_or cells 0 cell → values ≡ cell.values
    → (value_at 1 field row ≡ Some (stored.Num (get_or h.numbers field (pos 0)))) × (get_or values field (stored.Num (pos 0)) ≡ stored.Num (get_or h.numbers field (pos 0)))
value_here field row cells cell values h same first is =
    let told = is ∙ ap (λ (c : StoredCell). c.values) (first ∙ ap (λ (those : List StoredCell). get_or those 0 cell) (same ∙ h.cells)) in
    let there = number_in h.numbers field h.within in
    (ap (cells_at field) h.cells ∙ there, ap (λ (those : List Stored). get_or those field (stored.Num (pos 0))) told ∙ get_or_from_slice_get _ field _ _ there)

-- ---- columns

pub columns_step : (rows : List ImageRow) (field count : ℕ) → field < count → number_columns rows field (count - field) ≡ number_column rows field ++ number_columns rows (field + 1) (count - (field + 1))
columns_step rows field count within =
    let more : count - field ≡ suc (count - (field + 1)) = omega arith in
    ap (number_columns rows field) more
