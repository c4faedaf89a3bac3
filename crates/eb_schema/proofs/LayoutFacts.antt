-- Where columns start, and that each lies in the block.
use Rattle.std.proofs.Common.{◌≡◌, ◌≤◌, ◌<◌, ℕ, zero, suc, ◌+◌, ◌*◌, ◌/◌, List, [], ◌∷◌, length, map, min, get_or, refl, ap, ◌∙◌, arith}
use Rattle.std.proofs.Math.ListN.{get_or-map}
use Rattle.std.proofs.Math.Nat.{div-mul-le_self, mul-le-mul_right, mul-add}
use Rattle.std.proofs.lemmas.List.{length-map}
use Rattle.std.proofs.lemmas.Nat.{le-div}
use Rattle.std.proofs.Common.{subst, Bool, true, false, Option, Some}
use Rattle.std.specs.Prelude.{cond, ◌==◌, find}
use Rattle.std.specs.List.{AllByRecursion}
use Rattle.eb_schema.specs.Schemas.{Types, component_of}
use Rattle.eb_schema.specs.SoundSchemas.{IsSchema, AreFields}
use Rattle.eb_schema.specs.declared.drafts.Holder.TheVariants.{OfComponent}
use Rattle.eb_schema.specs.declared.kinds.Component.{Component}
use Rattle.eb_schema.specs.declared.kinds.Field.{Field}
use Rattle.eb_schema.specs.declared.layouts.Column.{Column}
use Rattle.eb_schema.specs.Slots.{width}
use Rattle.eb_schema.specs.Layouts.{columns_from, widths, total, row_bytes, capacity, starts_from, starts, start_of, column_at, no_column, LieApart}

-- a product with a sum
pub spread : (n a b : ℕ) → n * (a + b) ≡ n * a + n * b
spread n a b = mul-add n a b

pub length-starts_from : (n at : ℕ) (ws : List ℕ) → length (starts_from n at ws) ≡ length ws
length-starts_from n at [] = refl
length-starts_from n at (w ∷ ws) = ap suc (length-starts_from n (at + n * w) ws)

-- each column ends where those before it and it itself are n rows wide
pub column_within : (n at : ℕ) (ws : List ℕ) (c : ℕ) → c < length ws → get_or (starts_from n at ws) c 0 + n * get_or ws c 0 ≤ at + n * total ws
column_within n at [] c lt = absurd (omega (arith, lt))
column_within n at (w ∷ ws) zero lt = omega (arith, spread n w (total ws))
column_within n at (w ∷ ws) (suc c) lt = omega (arith, spread n w (total ws), column_within n (at + n * w) ws c (omega (arith, lt)))

column_after : (n at : ℕ) (ws : List ℕ) (d : ℕ) → d < length ws → at ≤ get_or (starts_from n at ws) d 0
column_after n at [] d lt = absurd (omega (arith, lt))
column_after n at (w ∷ ws) zero lt = omega arith
column_after n at (w ∷ ws) (suc d) lt = omega (arith, column_after n (at + n * w) ws d (omega (arith, lt)))

-- a later column starts where an earlier one ends, or behind it
pub column_before : (n at : ℕ) (ws : List ℕ) (c d : ℕ) → c < d → d < length ws → get_or (starts_from n at ws) c 0 + n * get_or ws c 0 ≤ get_or (starts_from n at ws) d 0
column_before n at [] c d le lt = absurd (omega (arith, lt))
column_before n at (w ∷ ws) c zero le lt = absurd (omega (arith, le))
column_before n at (w ∷ ws) zero (suc d) le lt = column_after n (at + n * w) ws d (omega (arith, lt))
column_before n at (w ∷ ws) (suc c) (suc d) le lt = column_before n (at + n * w) ws c d (omega (arith, le)) (omega (arith, lt))

pub capacity_fits : (cs : List Column) → capacity cs * total (widths cs) ≤ 16384
unfolding capacity row_bytes
capacity_fits cs =
    let rows = 16384 / total (widths cs) in let less : min 128 rows ≤ rows = omega arith in
    omega (arith, mul-le-mul_right (total (widths cs)) less, div-mul-le_self 16384 (total (widths cs)))

pub capacity_most : (cs : List Column) → capacity cs ≤ 128
unfolding capacity
capacity_most cs = omega arith

-- a block has room for a row of as many bytes
pub capacity_some : (cs : List Column) → 28 ≤ row_bytes cs → row_bytes cs ≤ 6172 → 0 < min 128 (16384 / row_bytes cs)
capacity_some cs least most = omega (arith, le-div 1 16384 (row_bytes cs) (omega (arith, least)) (omega (arith, most)))

pub lie_apart : (cs : List Column) → LieApart cs
unfolding starts
lie_apart cs = record {
  within = λ c lt. omega (arith, column_within (capacity cs) 0 (widths cs) c lt, capacity_fits cs);
  apart = λ c d le lt. column_before (capacity cs) 0 (widths cs) c d le lt;
}

pub column_width : (cs : List Column) (c : ℕ) → get_or (widths cs) (c + 2) 0 ≡ width (column_at cs c).holds
column_width cs c = let e : c + 2 ≡ suc (suc c) = omega arith in
    ap (λ k. get_or (widths cs) k 0) e ∙ get_or-map (λ (x : Column). width x.holds) cs c no_column

pub length-widths : (cs : List Column) → length (widths cs) ≡ length cs + 2
length-widths cs = omega (arith, length-map cs (λ (x : Column). width x.holds))

pub column_in_block : (cs : List Column) (c : ℕ) → c < length cs → start_of cs c + capacity cs * width (column_at cs c).holds ≤ 16384
unfolding starts
column_in_block cs c lt =
    let in_range : c + 2 < length (widths cs) = omega (arith, length-widths cs, lt) in
    let h = column_within (capacity cs) 0 (widths cs) (c + 2) in_range in
    omega (arith, h, capacity_fits cs, ap (λ w. capacity cs * w) (column_width cs c))

pub starts_length : (cs : List Column) → length (starts cs) ≡ length cs + 2
unfolding starts
starts_length cs = length-starts_from (capacity cs) 0 (widths cs) ∙ length-widths cs

-- the first two columns have entities of 12 bytes and names of 16
pub starts_begin : (cs : List Column) (rows : ℕ) → rows ≡ capacity cs → 0 ∷ (12 * rows ∷ starts_from rows (28 * rows) (map (λ (x : Column). width x.holds) cs)) ≡ starts cs
unfolding starts
starts_begin cs rows e =
    let one : 12 * rows ≡ 0 + rows * 12 = omega arith in let two : 28 * rows ≡ 0 + rows * 12 + rows * 16 = omega arith in
    (λ i. 0 ∷ (one i ∷ starts_from rows (two i) (map (λ (x : Column). width x.holds) cs))) ∙ ap (λ n. starts_from n 0 (widths cs)) e

pub most_bytes : (rows w : ℕ) → rows ≤ 128 → w ≤ 12 → rows * w ≤ 1536
most_bytes rows w few small = omega (arith, mul-le-mul_right w few)

-- a type's fields make as many columns
pub length-columns_from : (kind i : ℕ) (fs : List Field) → length (columns_from kind i fs) ≡ length fs
length-columns_from kind i [] = refl
length-columns_from kind i (f ∷ fs) = ap suc (length-columns_from kind (i + 1) fs)

found_where : {X : Type 0} (P : X → Type 0) (b : Bool) (x y : X) (rest : Option X) → P x → (rest ≡ Some y → P y) → cond b (Some x) rest ≡ Some y → P y
found_where P true x y rest px k e = let same : x ≡ y = cc in subst P same px
found_where P false x y rest px k e = k e

-- what is found has what all have
pub found_has : {X : Type 0} (P : X → Type 0) (test : X → Bool) (xs : List X) (y : X) → AllByRecursion P xs → find test xs ≡ Some y → P y
found_has P test [] y all e = cc
found_has P test (x ∷ xs) y all e = found_where P (test x) x y (find test xs) all.0 (found_has P test xs y all.1) e

pub fields_few : (types : Types) (kind : ℕ) (c : Component) → IsSchema types → component_of types kind ≡ Some c → length c.fields ≤ 16
fields_few types kind c sound e = (found_has (λ (x : Component). AreFields OfComponent x.fields) (λ x. x.number == kind) types.components c sound.components.fields e).few
