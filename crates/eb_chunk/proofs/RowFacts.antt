-- Rows that are written value by value, added, set and dropped.
use Rattle.std.proofs.Common.{◌≡◌, ◌≤◌, ◌<◌, ℕ, zero, suc, ◌+◌, ◌-◌, List, [], ◌∷◌, ◌++◌, length, take, drop, get_or, set, refl, sym, ap, ◌∙◌, arith, length-append, length-take, length-drop, drop-drop, append-nil}
use Rattle.std.proofs.lemmas.List.{take_at, drop_at, take_all, drop_all, set-set, set-get_or, set_split, get_or-set_same, get_or-take, take-set}
use Rattle.std.proofs.Math.Seq.{take-suc, take-suc-set}
use Rattle.eb_base.specs.declared.names.Entity.{Entity}
use Rattle.eb_base.specs.declared.names.Name.{Name}
use Rattle.eb_schema.specs.declared.slots.Slot.{Slot}
use Rattle.std.proofs.Common.{map, Bool, true, false, Option, Some}
use Rattle.std.specs.Prelude.{cond}
use Rattle.eb_schema.specs.declared.layouts.Column.{Column}
use Rattle.eb_schema.specs.Layouts.{column_at, find_column}
use Rattle.eb_chunk.specs.Rows.{RowValue, carried_slot, no_row, no_slot, row_of, with_slot, row_in, slot_set}

-- the first c of one list, and the rest of another
abbrev pub mixed : ℕ → List Slot → List Slot → List Slot
mixed c new old = take c new ++ drop c old

slots_step : (new old : List Slot) (c : ℕ) → length new ≡ length old → c < length new → set (mixed c new old) c (get_or new c no_slot) ≡ mixed (c + 1) new old
slots_step new old c same lt =
    let x = get_or new c no_slot in let up : c + 1 ≡ suc c = omega arith in let one : suc c ≡ c + 1 = omega arith in
    let front : length (take c new) ≡ c = omega (arith, length-take c new) in
    let more : length (take c new ++ drop c old) ≡ length old = omega (arith, length-append (take c new) (drop c old), length-drop c old, front, same) in
    let rest : drop (suc c) (mixed c new old) ≡ drop (c + 1) old =
    ap (λ k. drop k (mixed c new old)) one ∙ sym (drop-drop 1 c (mixed c new old)) ∙ ap (drop 1) (drop_at (take c new) (drop c old) c front) ∙ drop-drop 1 c old in
    set_split (mixed c new old) c x (omega (arith, more, same)) ∙ (λ i. take_at (take c new) (drop c old) c front i ++ x ∷ rest i)
    ∙ sym (ap (λ k. take k new ++ drop (c + 1) old) up ∙ ap (λ l. l ++ drop (c + 1) old) (take-suc new c no_slot lt) ∙ joins (take c new) x (drop (c + 1) old))
  where
    joins : (p : List Slot) (x : Slot) (r : List Slot) → (p ++ x ∷ []) ++ r ≡ p ++ x ∷ r
    joins [] x r = refl
    joins (y ∷ p) x r = ap (λ l. y ∷ l) (joins p x r)

-- one value more of a row is written
pub row_step : (g : List RowValue) (r : ℕ) (e : Entity) (m : Name) (new old : List Slot) (c : ℕ) → r < length g → length new ≡ length old → c < length new
    → slot_set (set g r (row_of e m (mixed c new old))) r c (get_or new c no_slot) ≡ set g r (row_of e m (mixed (c + 1) new old))
row_step g r e m new old c rn same lt =
    let x = row_of e m (mixed c new old) in
    ap (λ row. set (set g r x) r (with_slot row c (get_or new c no_slot))) (get_or-set_same g r x no_row rn)
    ∙ set-set g r x (row_of e m (set (mixed c new old) c (get_or new c no_slot))) ∙ ap (λ l. set g r (row_of e m l)) (slots_step new old c same lt)

pub all_mixed : (new old : List Slot) (c : ℕ) → length new ≡ length old → c ≡ length new → mixed c new old ≡ new
all_mixed new old c same all = (λ i. take_all c new (omega (arith, all)) i ++ drop_all c old (omega (arith, all, same)) i) ∙ append-nil new

pub rows_push : (g : List RowValue) (len : ℕ) (x : RowValue) → len < length g → take (len + 1) (set g len x) ≡ take len g ++ x ∷ []
rows_push g len x lt = let up : len + 1 ≡ suc len = omega arith in ap (λ k. take k (set g len x)) up ∙ take-suc-set g len x lt

pub rows_set : (g : List RowValue) (len r : ℕ) (x : RowValue) → r < len → take len (set g r x) ≡ set (take len g) r x
rows_set g zero r x lt = absurd (omega (arith, lt))
rows_set [] (suc len) r x lt = refl
rows_set (y ∷ g) (suc len) zero x lt = refl
rows_set (y ∷ g) (suc len) (suc r) x lt = ap (λ l. y ∷ l) (rows_set g len r x (omega (arith, lt)))

pub fewer : (n m : ℕ) (g : List RowValue) → n ≤ m → take n (take m g) ≡ take n g
fewer zero m g le = refl
fewer (suc n) zero g le = absurd (omega (arith, le))
fewer (suc n) (suc m) [] le = refl
fewer (suc n) (suc m) (y ∷ g) le = ap (λ l. y ∷ l) (fewer n m g (omega (arith, le)))

pub row_kept : (g : List RowValue) (len r : ℕ) → r < len → row_in (take len g) r ≡ row_in g r
row_kept g len r lt = get_or-take len g r no_row lt

pub rows_slot : (g : List RowValue) (len r c : ℕ) (s : Slot) → r < len → take len (slot_set g r c s) ≡ slot_set (take len g) r c s
rows_slot g len r c s lt = rows_set g len r (with_slot (row_in g r) c s) lt ∙ ap (λ row. set (take len g) r (with_slot row c s)) (sym (row_kept g len r lt))

-- the last row moves into another
pub rows_filled : (g : List RowValue) (len r : ℕ) → r < len → take (len - 1) (set g r (row_in g (len - 1))) ≡ take (len - 1) (set (take len g) r (row_in (take len g) (len - 1)))
rows_filled g len r lt =
    let x = row_in g (len - 1) in
    sym (fewer (len - 1) len (set g r x) (omega arith)) ∙ ap (take (len - 1)) (rows_set g len r x lt ∙ ap (set (take len g) r) (sym (row_kept g len (len - 1) (omega (arith, lt)))))

-- where it is the last itself, it is dropped
pub rows_dropped : (g : List RowValue) (len r : ℕ) → r < len → r ≡ len - 1 → take (len - 1) g ≡ take (len - 1) (set (take len g) r (row_in (take len g) (len - 1)))
rows_dropped g len r lt e =
    let x = row_in (take len g) (len - 1) in
    sym (fewer (len - 1) len g (omega arith)) ∙ sym (take-set (take len g) (len - 1) x) ∙ ap (λ k. take (len - 1) (set (take len g) k x)) (sym e)

-- entity and name of a row are written
pub head_step : (g t u : List RowValue) (r : ℕ) (e : Entity) (m : Name) → r < length g → t ≡ set g r (row_of e (row_in g r).name (row_in g r).slots)
    → u ≡ set t r (row_of (row_in t r).entity m (row_in t r).slots) → u ≡ set g r (row_of e m (row_in g r).slots)
head_step g t u r e m rn et eu =
    let x = row_of e (row_in g r).name (row_in g r).slots in
    let row : row_in t r ≡ x = ap (λ l. row_in l r) et ∙ get_or-set_same g r x no_row rn in
    eu ∙ (λ i. set (et i) r (row_of (row i).entity m (row i).slots)) ∙ set-set g r x (row_of e m (row_in g r).slots)

-- a row that is copied over itself stays
pub same_row : (g : List RowValue) (r from : ℕ) → from ≡ r → g ≡ set g r (row_in g from)
same_row g r from e = sym (set-get_or g r no_row) ∙ ap (λ k. set g r (row_in g k)) (sym e)

-- what a carried row has in a column
pub nth_carried : (cs old : List Column) (row : RowValue) (c : ℕ) → c < length cs → get_or (map (carried_slot old row) cs) c no_slot ≡ carried_slot old row (column_at cs c)
nth_carried [] old row c lt = absurd (omega (arith, lt))
nth_carried (x ∷ cs) old row zero lt = refl
nth_carried (x ∷ cs) old row (suc c) lt = nth_carried cs old row c (omega (arith, lt))

found_where : (b : Bool) (i k : ℕ) (rest : Option ℕ) (n : ℕ) → i + 1 ≤ n → (rest ≡ Some k → k < n) → cond b (Some i) rest ≡ Some k → k < n
found_where true i k rest n below f e = let same : i ≡ k = cc in omega (arith, same, below)
found_where false i k rest n below f e = f e

-- a column that is found is one of the columns
found_from : (kind field i k : ℕ) (cs : List Column) → find_column kind field i cs ≡ Some k → k < i + length cs
found_from kind field i k [] e = cc
found_from kind field i k (c ∷ cs) e = found_where _ i k (find_column kind field (i + 1) cs) (i + length (c ∷ cs)) (omega arith) (λ h. omega (arith, found_from kind field (i + 1) k cs h)) e

pub found_below : (kind field k : ℕ) (cs : List Column) → find_column kind field 0 cs ≡ Some k → k < length cs
found_below kind field k cs e = omega (arith, found_from kind field 0 k cs e)
