-- What a write into one cell makes of the rows of a block, and rows that are set, added and dropped.
use Rattle.std.proofs.Common.{◌≡◌, ◌≤◌, ◌<◌, ℕ, zero, suc, ◌+◌, ◌*◌, List, [], ◌∷◌, length, map, take, drop, get_or, set, refl, sym, ap, ◌∙◌, arith, length-set, inl, inr}
use Rattle.std.specs.Prelude.{◌⊎◌}
use Rattle.std.specs.List.{range_with_len}
use Rattle.std.proofs.lemmas.Bool.{cases_eq}
use Rattle.std.proofs.lemmas.List.{ext_get_or, get_or-set_same, get_or-set_other, length-map}
use Rattle.std.proofs.lemmas.List.FromFn.{get_or-map-range_with_len, length-map-range_with_len}
use Rattle.eb_base.specs.declared.names.Entity.{Entity}
use Rattle.eb_base.specs.declared.names.Name.{Name}
use Rattle.eb_base.specs.Names.{IsName}
use Rattle.eb_block.specs.Bytes.{written, rewritten}
use Rattle.eb_block.proofs.Written.{refilled}
use Rattle.eb_schema.specs.declared.layouts.Column.{Column}
use Rattle.eb_schema.specs.declared.slots.Slot.{Slot}
use Rattle.eb_schema.specs.Layouts.{total, widths, capacity, column_at, start_of, starts, starts_from}
use Rattle.eb_schema.specs.Slots.{width, Fits, IsEntity, slot_bytes, slot_of, entity_bytes, name_bytes}
use Rattle.eb_schema.proofs.LayoutFacts.{capacity_fits, column_width, length-widths}
use Rattle.eb_schema.proofs.SlotFacts.{slot_length, slot_back, entity_back, entity_length, name_length, name_back}
use Rattle.eb_chunk.specs.Cells.{part, cells_at, place_from}
use Rattle.eb_chunk.specs.Rows.{RowValue, slots_of, row_value, row_at, table, no_row, no_slot, row_of, with_slot, row_in, slot_set, slot_in}
use Rattle.eb_chunk.proofs.CellFacts.{cells-same, cells-other, place-from}

apart : (k r : ℕ) → (k ≡ r → ⊥) → (k < r) ⊎ (r < k)
apart zero zero ne = absurd (ne refl)
apart zero (suc r) ne = inl (omega arith)
apart (suc k) zero ne = inr (omega arith)
apart (suc k) (suc r) ne = elim (apart k r (λ e. ne (ap suc e))) [ inl l ↦ inl (omega (arith, l)) | inr m ↦ inr (omega (arith, m)) ]

-- of n values one is another
pub one_set : (f g : ℕ → RowValue) (n r : ℕ) → r < n → ((k : ℕ) → k < n → (k < r) ⊎ (r < k) → g k ≡ f k) → map g (range_with_len 0 n) ≡ set (map f (range_with_len 0 n)) r (g r)
one_set f g n r lt same =
    let old = map f (range_with_len 0 n) in let count = length-map-range_with_len f 0 n in let count' = length-map-range_with_len g 0 n in
    ext_get_or no_row (map g (range_with_len 0 n)) (set old r (g r)) (omega (arith, count, count', length-set old r (g r))) (λ i within.
    let inside : i < n = omega (arith, within, count') in let at : 0 + i ≡ i = omega arith in
    get_or-map-range_with_len g 0 n i i no_row inside at ∙ elim (cases_eq i r) [
      | inl e ↦ ap g e ∙ sym (get_or-set_same old r (g r) no_row (omega (arith, count, lt))) ∙ ap (λ k. get_or (set old r (g r)) k no_row) (sym e)
      | inr ne ↦ same i inside (apart i r ne) ∙ sym (get_or-map-range_with_len f 0 n i i no_row inside at) ∙ sym (get_or-set_other old r i (g r) no_row ne)
    ])

pub length-cells : (ws : List ℕ) (n at : ℕ) (bs : List ℕ) (r : ℕ) → length (cells_at ws n at bs r) ≡ length ws
length-cells [] n at bs r = refl
length-cells (w ∷ ws) n at bs r = ap suc (length-cells ws n (at + n * w) bs r)

slots-set : (cs : List Column) (cells : List (List ℕ)) (c : ℕ) (xs : List ℕ) → c < length cs → length cells ≡ length cs
    → slots_of cs (set cells c xs) ≡ set (slots_of cs cells) c (slot_of (column_at cs c).holds xs)
slots-set [] cells c xs lt long = absurd (omega (arith, lt))
slots-set (k ∷ cs) [] c xs lt long = absurd (omega (arith, long))
slots-set (k ∷ cs) (x ∷ cells) zero xs lt long = refl
slots-set (k ∷ cs) (x ∷ cells) (suc c) xs lt long = ap (λ l. slot_of k.holds x ∷ l) (slots-set cs cells c xs (omega (arith, lt)) (omega (arith, long)))

pub length-slots : (cs : List Column) (cells : List (List ℕ)) → length cells ≡ length cs → length (slots_of cs cells) ≡ length cs
length-slots [] cells long = refl
length-slots (k ∷ cs) [] long = absurd (omega (arith, long))
length-slots (k ∷ cs) (x ∷ cells) long = ap suc (length-slots cs cells (omega (arith, long)))

-- what a write of xs into the cell of row r in column c leaves
module _ (cs : List Column) (bs : List ℕ) (r c : ℕ) (xs : List ℕ) (rn : r < capacity cs) (lt : c < length (widths cs)) (long : length xs ≡ get_or (widths cs) c 0) (all : length bs ≡ 16384) where
  abbrev n : ℕ
  n = capacity cs

  abbrev new : List ℕ
  new = written bs (place_from (widths cs) n 0 c r) xs

  pub cell_written : table cs new ≡ set (table cs bs) r (row_value cs (set (cells_at (widths cs) n 0 bs r) c xs))
  unfolding table
  cell_written =
      let room : 0 + n * total (widths cs) ≤ length bs = omega (arith, capacity_fits cs, all) in
      one_set (row_at cs bs) (row_at cs new) n r rn (λ k kn other. ap (row_value cs) (cells-other (widths cs) n 0 bs xs c r k rn kn other lt long room))
      ∙ ap (λ cells. set (map (row_at cs bs) (range_with_len 0 n)) r (row_value cs cells)) (cells-same (widths cs) n 0 bs xs c r rn lt long room)

pub row_there : (cs : List Column) (bs : List ℕ) (r : ℕ) → r < capacity cs → row_in (table cs bs) r ≡ row_at cs bs r
unfolding table
row_there cs bs r rn = get_or-map-range_with_len (row_at cs bs) 0 (capacity cs) r r no_row rn (omega arith)

pub length-table : (cs : List Column) (bs : List ℕ) → length (table cs bs) ≡ capacity cs
unfolding table
length-table cs bs = length-map-range_with_len (row_at cs bs) 0 (capacity cs)

rest_long : (cs : List Column) (n at : ℕ) (bs : List ℕ) (r : ℕ) → length (cells_at (map (λ (x : Column). width x.holds) cs) n at bs r) ≡ length cs
rest_long cs n at bs r = length-cells (map (λ (x : Column). width x.holds) cs) n at bs r ∙ length-map cs (λ (x : Column). width x.holds)

pub length-row_slots : (cs : List Column) (bs : List ℕ) (r : ℕ) → r < capacity cs → length (row_in (table cs bs) r).slots ≡ length cs
length-row_slots cs bs r rn =
    let n = capacity cs in
    ap (λ (row : RowValue). length row.slots) (row_there cs bs r rn) ∙ length-slots cs (cells_at (map (λ (x : Column). width x.holds) cs) n (0 + n * 12 + n * 16) bs r) (rest_long cs n (0 + n * 12 + n * 16) bs r)

pub slot_written : (cs : List Column) (bs : List ℕ) (r c : ℕ) (s : Slot) → r < capacity cs → c < length cs → Fits (column_at cs c).holds s → length bs ≡ 16384
    → table cs (written bs (place_from (widths cs) (capacity cs) 0 (c + 2) r) (slot_bytes (column_at cs c).holds s)) ≡ slot_set (table cs bs) r c s
slot_written cs bs r c s rn lt fits all =
    let n = capacity cs in let k = (column_at cs c).holds in let xs = slot_bytes k s in
    let cells = cells_at (widths cs) n 0 bs r in let rest = cells_at (map (λ (x : Column). width x.holds) cs) n (0 + n * 12 + n * 16) bs r in
    let two : c + 2 ≡ suc (suc c) = omega arith in
    let long : length xs ≡ get_or (widths cs) (c + 2) 0 = slot_length k s fits ∙ sym (column_width cs c) in
    let slots : slots_of cs (set rest c xs) ≡ set (slots_of cs rest) c s = slots-set cs rest c xs lt (rest_long cs n (0 + n * 12 + n * 16) bs r) ∙ ap (λ v. set (slots_of cs rest) c v) (slot_back k s fits) in
    let row : row_value cs (set cells (c + 2) xs) ≡ with_slot (row_in (table cs bs) r) c s =
    ap (λ j. row_value cs (set cells j xs)) two ∙ ap (λ l. row_of (row_at cs bs r).entity (row_at cs bs r).name l) slots ∙ ap (λ x. with_slot x c s) (sym (row_there cs bs r rn)) in
    cell_written cs bs r (c + 2) xs rn (omega (arith, lt, length-widths cs)) long all ∙ ap (λ x. set (table cs bs) r x) row

pub entity_written : (cs : List Column) (bs : List ℕ) (r : ℕ) (e : Entity) → r < capacity cs → IsEntity e → length bs ≡ 16384
    → table cs (written bs (place_from (widths cs) (capacity cs) 0 0 r) (entity_bytes e)) ≡ set (table cs bs) r (row_of e (row_in (table cs bs) r).name (row_in (table cs bs) r).slots)
entity_written cs bs r e rn is all =
    let row : row_value cs (set (cells_at (widths cs) (capacity cs) 0 bs r) 0 (entity_bytes e)) ≡ row_of e (row_in (table cs bs) r).name (row_in (table cs bs) r).slots =
    ap (λ x. row_of x (row_at cs bs r).name (row_at cs bs r).slots) (entity_back e is) ∙ ap (λ (x : RowValue). row_of e x.name x.slots) (sym (row_there cs bs r rn)) in
    cell_written cs bs r 0 (entity_bytes e) rn (omega (arith, length-widths cs)) (entity_length e) all ∙ ap (λ x. set (table cs bs) r x) row

pub name_written : (cs : List Column) (bs : List ℕ) (r : ℕ) (m : Name) → r < capacity cs → IsName m → length bs ≡ 16384
    → table cs (written bs (place_from (widths cs) (capacity cs) 0 1 r) (name_bytes m)) ≡ set (table cs bs) r (row_of (row_in (table cs bs) r).entity m (row_in (table cs bs) r).slots)
name_written cs bs r m rn is all =
    let row : row_value cs (set (cells_at (widths cs) (capacity cs) 0 bs r) 1 (name_bytes m)) ≡ row_of (row_in (table cs bs) r).entity m (row_in (table cs bs) r).slots =
    ap (λ x. row_of (row_at cs bs r).entity x (row_at cs bs r).slots) (name_back m is) ∙ ap (λ (x : RowValue). row_of x.entity m x.slots) (sym (row_there cs bs r rn)) in
    cell_written cs bs r 1 (name_bytes m) rn (omega (arith, length-widths cs)) (name_length m) all ∙ ap (λ x. set (table cs bs) r x) row

-- the place of a cell, by the start of its column
pub place_is : (ws : List ℕ) (n at c r : ℕ) → c < length ws → place_from ws n at c r ≡ get_or (starts_from n at ws) c 0 + r * get_or ws c 0
place_is [] n at c r lt = absurd (omega (arith, lt))
place_is (w ∷ ws) n at zero r lt = refl
place_is (w ∷ ws) n at (suc c) r lt = place_is ws n (at + n * w) c r (omega (arith, lt))

pub slot_place : (cs : List Column) (c r : ℕ) → c < length cs → start_of cs c + r * width (column_at cs c).holds ≡ place_from (widths cs) (capacity cs) 0 (c + 2) r
unfolding starts
slot_place cs c r lt =
    ap (λ w. get_or (starts_from (capacity cs) 0 (widths cs)) (c + 2) 0 + r * w) (sym (column_width cs c))
    ∙ sym (place_is (widths cs) (capacity cs) 0 (c + 2) r (omega (arith, lt, length-widths cs)))

pub slot_room : (cs : List Column) (c r : ℕ) → r < capacity cs → c < length cs → start_of cs c + r * width (column_at cs c).holds + width (column_at cs c).holds ≤ 16384
slot_room cs c r rn lt =
    let h = (place-from (widths cs) (capacity cs) 0 (c + 2) r rn (omega (arith, lt, length-widths cs))).1 in
    omega (arith, h, capacity_fits cs, slot_place cs c r lt, column_width cs c)

-- the value of a cell is what its bytes hold
slots-get : (cs : List Column) (n at : ℕ) (bs : List ℕ) (c r : ℕ) → c < length cs
    → get_or (slots_of cs (cells_at (map (λ (x : Column). width x.holds) cs) n at bs r)) c no_slot ≡ slot_of (column_at cs c).holds (part bs (place_from (map (λ (x : Column). width x.holds) cs) n at c r) (width (column_at cs c).holds))
slots-get [] n at bs c r lt = absurd (omega (arith, lt))
slots-get (k ∷ cs) n at bs zero r lt = refl
slots-get (k ∷ cs) n at bs (suc c) r lt = slots-get cs n (at + n * width k.holds) bs c r (omega (arith, lt))

pub slot_read : (cs : List Column) (bs : List ℕ) (c r : ℕ) → r < capacity cs → c < length cs
    → slot_of (column_at cs c).holds (part bs (start_of cs c + r * width (column_at cs c).holds) (width (column_at cs c).holds)) ≡ slot_in (table cs bs) r c
slot_read cs bs c r rn lt =
    let n = capacity cs in let ws = map (λ (x : Column). width x.holds) cs in let k = (column_at cs c).holds in let two : c + 2 ≡ suc (suc c) = omega arith in
    let place : start_of cs c + r * width k ≡ place_from ws n (0 + n * 12 + n * 16) c r = slot_place cs c r lt ∙ ap (λ j. place_from (widths cs) n 0 j r) two in
    ap (λ p. slot_of k (part bs p (width k))) place ∙ sym (slots-get cs n (0 + n * 12 + n * 16) bs c r lt) ∙ ap (λ (row : RowValue). get_or row.slots c no_slot) (sym (row_there cs bs r rn))

-- bytes that were written into a lent range
pub put_over : (bs into xs : List ℕ) (p q w : ℕ) → into ≡ xs → p ≡ q → length xs ≡ w → rewritten bs p w into ≡ written bs q xs
put_over bs into xs p q w e pq long = ap (written bs p) (refilled (take w (drop p bs)) into w (ap length e ∙ long)) ∙ (λ i. written bs (pq i) (e i))
