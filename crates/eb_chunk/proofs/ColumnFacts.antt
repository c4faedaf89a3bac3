-- The numbers of a column of a block are those of its rows.
use Rattle.std.proofs.Common.{◌≡◌, ◌≤◌, ◌<◌, ℕ, zero, suc, ◌+◌, ◌*◌, List, [], ◌∷◌, length, map, take, drop, get_or, refl, sym, ap, ◌∙◌, arith, length-take, length-drop, drop-drop, take-append-drop, drop-cons, subst, inl, inr}
use Rattle.std.specs.Prelude.{ℤ, pos, ◌+ℤ◌}
use Rattle.std.specs.Simd.{first_chunks}
use Rattle.std.proofs.Math.ListN.{get_or-map}
use Rattle.std.proofs.Math.Nat.{suc-mul, zero-mul, mul-le-mul_right}
use Rattle.std.proofs.lemmas.List.{ext_get_or, get_or-take, length-map, drop_all}
use Rattle.std.specs.Int.{int_max, w64}
use Rattle.std.specs.Prelude.{FitsSigned, cond}
use Rattle.std.proofs.Common.{Bool, true, false}
use Rattle.std.proofs.Common.{Some}
use Rattle.eb_schema.specs.declared.layouts.Column.{Column}
use Rattle.eb_schema.specs.declared.kinds.Kind.{Kind}
use Rattle.eb_schema.specs.declared.kinds.Kind.TheVariants.{I8, I16, I32, I64, Fix, Ref, Asset}
use Rattle.eb_schema.specs.Layouts.{capacity, column_at, start_of}
use Rattle.eb_schema.specs.Slots.{width, slot_of}
use Rattle.eb_schema.proofs.LayoutFacts.{column_in_block}
use Rattle.eb_chunk.specs.Cells.{part}
use Rattle.eb_chunk.specs.Rows.{RowValue, table, no_row, no_slot}
use Rattle.eb_chunk.specs.Columns.{IsNumber, IsWidth, number_of, numbers, num_of, column_of, total_of, greatest, greatest_of}
use Rattle.eb_chunk.proofs.CellFacts.{front-part, row_room}
use Rattle.eb_chunk.proofs.TableFacts.{slot_read, length-table}

length-chunks : (w n : ℕ) (xs : List ℕ) → length (first_chunks w n xs) ≡ n
length-chunks w zero xs = refl
length-chunks w (suc n) xs = ap suc (length-chunks w n (drop w xs))

nth_chunk : (w n i : ℕ) (xs : List ℕ) → i < n → get_or (first_chunks w n xs) i [] ≡ part xs (i * w) w
nth_chunk w zero i xs lt = absurd (omega (arith, lt))
nth_chunk w (suc n) zero xs lt = ap (λ k. take w (drop k xs)) (sym (zero-mul w))
nth_chunk w (suc n) (suc i) xs lt =
    let up : w + i * w ≡ suc i * w = omega (arith, suc-mul i w) in
    nth_chunk w n i (drop w xs) (omega (arith, lt)) ∙ ap (take w) (drop-drop (i * w) w xs ∙ ap (λ k. drop k xs) up)

pub length-numbers : (w n : ℕ) (xs : List ℕ) → length (numbers w n xs) ≡ n
unfolding numbers
length-numbers w n xs = length-map (first_chunks w n xs) (number_of w) ∙ length-chunks w n xs

pub nth_number : (w n i : ℕ) (xs : List ℕ) → i < n → get_or (numbers w n xs) i (number_of w []) ≡ number_of w (part xs (i * w) w)
unfolding numbers
nth_number w n i xs lt = get_or-map (number_of w) (first_chunks w n xs) i [] ∙ ap (number_of w) (nth_chunk w n i xs lt)

-- within a list the default doesn't matter
any_default : (xs : List ℤ) (i : ℕ) (d e : ℤ) → i < length xs → get_or xs i d ≡ get_or xs i e
any_default [] i d e lt = absurd (omega (arith, lt))
any_default (x ∷ xs) zero d e lt = refl
any_default (x ∷ xs) (suc i) d e lt = any_default xs i d e (omega (arith, lt))

pub number_there : (w n i : ℕ) (xs : List ℕ) → i < n → number_of w (part xs (i * w) w) ≡ get_or (numbers w n xs) i (pos 0)
number_there w n i xs lt = sym (nth_number w n i xs lt) ∙ any_default (numbers w n xs) i (number_of w []) (pos 0) (omega (arith, lt, length-numbers w n xs))

number_is : (k : Kind) → IsNumber k → (bs : List ℕ) → number_of (width k) bs ≡ num_of (slot_of k bs)
unfolding slot_of
number_is I8 h bs = refl
number_is I16 h bs = refl
number_is I32 h bs = refl
number_is I64 h bs = refl
number_is Fix h bs = refl
number_is Ref h bs = absurd h
number_is Asset h bs = absurd h

width_is : (k : Kind) → IsNumber k → IsWidth (width k)
width_is I8 h = inl refl
width_is I16 h = inr (inl refl)
width_is I32 h = inr (inr (inl refl))
width_is I64 h = inr (inr (inr refl))
width_is Fix h = inr (inr (inr refl))
width_is Ref h = absurd h
width_is Asset h = absurd h

-- the bytes of a column's rows lie in the block
pub rows_room : (cs : List Column) (c len : ℕ) → c < length cs → len ≤ capacity cs → start_of cs c + len * width (column_at cs c).holds ≤ 16384
rows_room cs c len lt few = omega (arith, column_in_block cs c lt, mul-le-mul_right (width (column_at cs c).holds) few)

module _ (cs : List Column) (bs : List ℕ) (c len w : ℕ) (lt : c < length cs) (few : len ≤ capacity cs) (all : length bs ≡ 16384) (number : IsNumber (column_at cs c).holds) (wide : width (column_at cs c).holds ≡ w) where
  abbrev k : Kind
  k = (column_at cs c).holds

  abbrev start : ℕ
  start = start_of cs c

  abbrev bytes : List ℕ
  bytes = take (len * w) (drop start bs)

  room : start + len * w ≤ 16384
  room = subst (λ (n : ℕ). start + len * n ≤ 16384) wide (rows_room cs c len lt few)

  pub view_size : length bytes ≡ len * w
  view_size = omega (arith, length-take (len * w) (drop start bs), length-drop start bs, all, room)

  pub view_width : IsWidth w
  view_width = subst IsWidth wide (width_is k number)

  each : (i : ℕ) → i < len → get_or (numbers w len bytes) i (pos 0) ≡ get_or (column_of (take len (table cs bs)) c) i (pos 0)
  each i li =
      let m = len * w in let ys = drop start bs in
      let inside = front-part (take m ys) (drop m ys) (i * w) w (omega (arith, row_room i len w li, view_size)) in
      sym (number_there w len i bytes li)
      ∙ ap (number_of w) (sym inside ∙ ap (λ l. part l (i * w) w) (take-append-drop m ys) ∙ ap (take w) (drop-drop (i * w) start bs))
      ∙ (λ j. number_of (sym wide j) (part bs (start + i * sym wide j) (sym wide j)))
      ∙ number_is k number (part bs (start + i * width k) (width k))
      ∙ ap num_of (slot_read cs bs c i (omega (arith, li, few)) lt)
      ∙ ap (λ (row : RowValue). num_of (get_or row.slots c no_slot)) (sym (get_or-take len (table cs bs) i no_row li))
      ∙ sym (get_or-map (λ (row : RowValue). num_of (get_or row.slots c no_slot)) (take len (table cs bs)) i no_row)

  pub column_numbers : numbers w len bytes ≡ column_of (take len (table cs bs)) c
  column_numbers =
      let count = length-numbers w len bytes in
      let count' : length (column_of (take len (table cs bs)) c) ≡ len = length-map (take len (table cs bs)) (λ (row : RowValue). num_of (get_or row.slots c no_slot)) ∙ omega (arith, length-take len (table cs bs), length-table cs bs, few) in
      ext_get_or (pos 0) (numbers w len bytes) (column_of (take len (table cs bs)) c) (omega (arith, count, count')) (λ i li. each i (omega (arith, li, count)))

pub total_drop : (xs : List ℤ) (i : ℕ) → i < length xs → total_of (drop i xs) ≡ get_or xs i (pos 0) +ℤ total_of (drop (i + 1) xs)
total_drop xs i lt = let up : suc i ≡ i + 1 = omega arith in ap total_of (drop-cons xs i (pos 0) lt ∙ ap (λ k. get_or xs i (pos 0) ∷ drop k xs) up)

pub no_numbers : (w n : ℕ) (xs : List ℕ) → n ≡ 0 → numbers w n xs ≡ []
unfolding numbers
no_numbers w n xs e = ap (λ k. map (number_of w) (first_chunks w k xs)) e

pub total_end : (xs : List ℤ) (i : ℕ) → length xs ≤ i → total_of (drop i xs) ≡ pos 0
total_end xs i le = ap total_of (drop_all i xs le)

-- one number more is looked at
pub greatest_step : (xs : List ℤ) (i : ℕ) (best : ℤ) → i < length xs → greatest best (drop i xs) ≡ greatest (int_max best (get_or xs i (pos 0))) (drop (i + 1) xs)
greatest_step xs i best lt = let up : suc i ≡ i + 1 = omega arith in ap (greatest best) (drop-cons xs i (pos 0) lt ∙ ap (λ k. get_or xs i (pos 0) ∷ drop k xs) up)

pub greatest_end : (xs : List ℤ) (i : ℕ) (best : ℤ) → length xs ≤ i → greatest best (drop i xs) ≡ best
greatest_end xs i best le = ap (greatest best) (drop_all i xs le)

pub greatest_all : (xs : List ℤ) → 0 < length xs → greatest_of xs ≡ Some (greatest (get_or xs 0 (pos 0)) (drop 1 xs))
greatest_all [] lt = absurd (omega (arith, lt))
greatest_all (x ∷ xs) lt = refl

fits_where : (b : Bool) (x y : ℤ) → FitsSigned w64 x → FitsSigned w64 y → FitsSigned w64 (cond b x y)
fits_where true x y fx fy = fx
fits_where false x y fx fy = fy

pub fits_max : (x y : ℤ) → FitsSigned w64 x → FitsSigned w64 y → FitsSigned w64 (int_max x y)
fits_max x y fx fy = fits_where _ x y fx fy
