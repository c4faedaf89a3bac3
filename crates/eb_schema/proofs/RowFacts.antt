-- What a row is after a cell is put into it, by whether its type is there.
use Rattle.std.proofs.Common.{◌≡◌, ℕ, ◌<◌, ◌≤◌, List, [], length, true, false, cond, nat_lt, Ok, Err, sym, ap, ◌∙◌, arith, length-set}
use Rattle.std.specs.Prelude.{◌||◌, is_some, slice_set}
use Rattle.std.specs.List.{insert}
use Rattle.std.specs.List.Sorted.{IsStrictlySortedBy}
use Rattle.std.proofs.lemmas.Bool.Decides.{nat_tests}
use Rattle.std.proofs.lemmas.List.Edits.{length-insert}
use Rattle.eb_schema.specs.declared.rows.Cell.{Cell}
use Rattle.eb_schema.specs.TypeOrder.{place_of}
use Rattle.eb_schema.specs.Rows.{most_kinds, cell_of, with_cell, takes_cell, put_cell, IsRow}
use Rattle.eb_schema.proofs.TypeOrderFacts.{put_at, put_at_place, some_placed, sorted_with}

abbrev kind : Cell → ℕ
kind c = c.kind

module _ (row : List Cell) (cell : Cell) (is_row : IsRow row) (at : ℕ) where
  put_taken : takes_cell row cell ≡ true → put_cell row cell ≡ with_cell row cell
  put_taken takes = ap (λ b. cond b (with_cell row cell) row) takes

  -- ---- its type is there
  module _ (is : Ok at ≡ place_of kind cell.kind row) (within : at < length row) where
    pub found_taken : takes_cell row cell ≡ true
    found_taken = ap (λ b. b || nat_lt (length row) most_kinds) (sym (some_placed kind cell.kind row (Ok at) is_row.order within is))

    found_with : slice_set row at cell ≡ with_cell row cell
    found_with = ap (λ r. put_at kind r row cell) is ∙ put_at_place kind cell row

    pub found_put : slice_set row at cell ≡ put_cell row cell
    found_put = found_with ∙ sym (put_taken found_taken)

    pub found_row : IsRow (slice_set row at cell)
    found_row = record {
      order = rw found_with (sorted_with kind cell row is_row.order);
      few = omega (arith, is_row.few, length-set row at cell);
    }

  -- ---- its type is new
  module _ (is : Err at ≡ place_of kind cell.kind row) (within : at ≤ length row) where
    absent : is_some (cell_of row cell.kind) ≡ false
    absent = sym (some_placed kind cell.kind row (Err at) is_row.order within is)

    takes_by_room : takes_cell row cell ≡ nat_lt (length row) most_kinds
    takes_by_room = ap (λ b. b || nat_lt (length row) most_kinds) absent

    pub full_refused : most_kinds ≤ length row → takes_cell row cell ≡ false
    full_refused full = takes_by_room ∙ grind (arith, nat_tests)

    pub full_same : most_kinds ≤ length row → put_cell row cell ≡ row
    full_same full = ap (λ b. cond b (with_cell row cell) row) (full_refused full)

    pub gap_taken : length row < most_kinds → takes_cell row cell ≡ true
    gap_taken room = takes_by_room ∙ grind (arith, nat_tests)

    gap_with : insert row at cell ≡ with_cell row cell
    gap_with = ap (λ r. put_at kind r row cell) is ∙ put_at_place kind cell row

    pub gap_put : length row < most_kinds → insert row at cell ≡ put_cell row cell
    gap_put room = gap_with ∙ sym (put_taken (gap_taken room))

    pub gap_row : length row < most_kinds → IsRow (insert row at cell)
    gap_row room = record {
      order = rw gap_with (sorted_with kind cell row is_row.order);
      few = omega (arith, length-insert row at cell within);
    }

pub no_cells : IsRow []
unfolding IsStrictlySortedBy
no_cells = record { order = tt; few = omega arith }
