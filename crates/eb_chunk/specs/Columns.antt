-- The numbers of one column.
use Rattle.std.specs.Prelude.{◌≡◌, ◌≤◌, ◌⊎◌, ◌*◌, ◌==◌, ◌+ℤ◌, ℕ, ℤ, pos, List, [], ◌∷◌, length, map, Option, Some, None, slice_index, slice_index_or, if◌then◌else◌}
use Rattle.std.specs.Int.{w8, w16, w32, w64, from_le_bytes, cast_signed}
use Rattle.std.specs.Int.{int_max}
use Rattle.std.specs.Simd.{first_chunks}
use Rattle.eb_schema.specs.declared.kinds.Kind.{Kind}
use Rattle.eb_schema.specs.declared.kinds.Kind.TheVariants.{I8, I16, I32, I64, Fix, Ref, Asset}
use Rattle.eb_schema.specs.declared.slots.Slot.{Slot}
use Rattle.eb_schema.specs.declared.slots.Slot.TheVariants.{Num, Link}
use Rattle.eb_chunk.specs.Rows.{RowValue, no_slot}

-- a kind of numbers
abbrev pub IsNumber : Kind → Type 0
IsNumber I8 = Unit {0}
IsNumber I16 = Unit {0}
IsNumber I32 = Unit {0}
IsNumber I64 = Unit {0}
IsNumber Fix = Unit {0}
IsNumber Ref = ⊥
IsNumber Asset = ⊥

-- the widths that numbers have
abbrev pub IsWidth : ℕ → Type 0
IsWidth w = (w ≡ 1) ⊎ ((w ≡ 2) ⊎ ((w ≡ 4) ⊎ (w ≡ 8)))

-- the number that as many bytes hold
abbrev pub number_of : ℕ → List ℕ → ℤ
number_of w bs =
    if w == 1 then cast_signed w8 (slice_index bs 0) else
    if w == 2 then cast_signed w16 (from_le_bytes w16 bs) else
    if w == 4 then cast_signed w32 (from_le_bytes w32 bs) else cast_signed w64 (from_le_bytes w64 bs)

-- n numbers, one after the other
unfoldable pub numbers : ℕ → ℕ → List ℕ → List ℤ
numbers w n bs = map (number_of w) (first_chunks w n bs)

-- what a view of a column keeps
pub record IsView (w rows : ℕ) (bytes : List ℕ) : Type 0 where
  pub width : IsWidth w
  pub size : length bytes ≡ rows * w
  pub few : rows ≤ 128

-- the number of a value
abbrev pub num_of : Slot → ℤ
num_of (Num n) = n
num_of (Link e) = pos 0

-- the numbers of a column of rows
abbrev pub column_of : List RowValue → ℕ → List ℤ
column_of list c = map (λ row. num_of (slice_index_or row.slots c no_slot)) list

abbrev pub total_of : List ℤ → ℤ
total_of [] = pos 0
total_of (x ∷ xs) = x +ℤ total_of xs

-- the greatest of x and xs
abbrev pub greatest : ℤ → List ℤ → ℤ
greatest x [] = x
greatest x (y ∷ ys) = greatest (int_max x y) ys

-- the greatest of a list, if it has an item
abbrev pub greatest_of : List ℤ → Option ℤ
greatest_of [] = None
greatest_of (x ∷ xs) = Some (greatest x xs)
