-- Two images do not share a spelling, and none goes on where another ends.
use Rattle.std.proofs.Common.{◌≡◌, ℕ, zero, suc, ◌+◌, ℤ, pos, negsuc, ◌<◌, ◌≤◌, ◌^◌, Option, Some, List, [], ◌∷◌, ◌++◌, length, map, take, drop, get_or, refl, sym, ap, subst, ◌∙◌, inl, inr, All, append_assoc, eq-or-lt_of_le, arith}
use Rattle.std.specs.Prelude.{◌⊎◌, FitsSigned, flat_map, option_map, slice_get, unwrap_or}
use Rattle.std.specs.Int.{w32, w64, cast_signed, cast_unsigned, to_le_bytes, from_le_bytes}
use Rattle.std.proofs.lemmas.Int.{to_z-of_z}
use Rattle.std.proofs.lemmas.List.{append-nil, drop_at, take_at}
use Rattle.std.proofs.lemmas.List.Elements.{All-head, All-tail}
use Rattle.std.proofs.lemmas.List.Folds.{flat_map-map}
use Rattle.std.proofs.lemmas.Nat.{from_le_bytes-to_le_bytes_4, from_le_bytes-to_le_bytes_8}
use Rattle.eb_base.specs.declared.names.Name.{Name}
use Rattle.eb_base.specs.declared.names.Place.{Place}
use Rattle.eb_schema.specs.declared.kinds.Kind.TheVariants.{I64}
use Rattle.eb_schema.specs.Schemas.{Types}
use Rattle.eb_file.specs.declared.images.Stored.{Stored}
use Rattle.eb_file.specs.declared.images.Stored.TheVariants as stored
use Rattle.eb_file.specs.declared.images.ImageRow.{ImageRow}
use Rattle.eb_file.specs.declared.images.Image.{Image}
use Rattle.eb_file.specs.Images.{IsValid, IsPlain, IsName, names_of}
use Rattle.eb_file.specs.Plain.{HoldsNumbers, field_count, number_cells, number_bytes, number_column, number_columns, number_archetype, number_text}
use Rattle.eb_file.specs.Spelling.{Spells, spelling, header, name_bytes, value_at, value_bytes}
use Rattle.eb_file.proofs.Columns.{IsAt, cells_at, number_there}
use Rattle.eb_file.proofs.OneSpelling.{has_spelling_lem, one_spelling_lem}
use Rattle.eb_file.proofs.PlainImages.{each_holds_numbers, spelling-plain}

-- ---- lists of pieces of one length

same_front : {A : Type 0} (a b r s : List A) → length a ≡ length b → a ++ r ≡ b ++ s → (a ≡ b) × (r ≡ s)
same_front a b r s same e =
    (sym (take_at a r (length b) same) ∙ ap (take (length b)) e ∙ take_at b s (length b) refl, sym (drop_at a r (length b) same) ∙ ap (drop (length b)) e ∙ drop_at b s (length b) refl)

module _ {X Y : Type 0} (f : X → List ℕ) (g : X → Y) (width : ℕ) (P : X → Type 0)
    (wide : (x : X) → P x → length (f x) ≡ width) (tells : (x y : X) → P x → P y → f x ≡ f y → g x ≡ g y) where
  same_pieces : (xs ys : List X) (r s : List ℕ) → length xs ≡ length ys → All P xs → All P ys → flat_map f xs ++ r ≡ flat_map f ys ++ s → (map g xs ≡ map g ys) × (r ≡ s)
  same_pieces [] [] r s same p q e = (refl, e)
  same_pieces [] (y ∷ ys) r s same p q e = absurd (omega arith)
  same_pieces (x ∷ xs) [] r s same p q e = absurd (omega arith)
  same_pieces (x ∷ xs) (y ∷ ys) r s same p q e =
      let px = All-head P x xs p in
      let py = All-head P y ys q in
      let regrouped = sym (append_assoc (f x) (flat_map f xs) r) ∙ e ∙ append_assoc (f y) (flat_map f ys) s in
      let here = same_front (f x) (f y) _ _ (wide x px ∙ sym (wide y py)) regrouped in
      let there = same_pieces xs ys r s (omega arith) (All-tail P x xs p) (All-tail P y ys q) here.1 in
      (λ i. tells x y px py here.0 i ∷ there.0 i, there.1)

-- ---- names

extra_fits : (extra : ℕ) → (extra ≡ 0) ⊎ ((17 ≤ extra) × (extra ≤ 1040)) → extra < 2 ^ 32
extra_fits extra (inl none) = omega arith
extra_fits extra (inr some) = omega arith

name_told : (scene : ℕ) (a b : Name) → IsName scene a → IsName scene b → name_bytes a ≡ name_bytes b → a ≡ b
name_told scene a b p q e =
    let number : List ℕ → ℕ = λ bytes. from_le_bytes w32 (take 4 bytes) in
    let play = p.play ∙ sym q.play in
    let same_scene = p.scene ∙ sym q.scene in
    let object = sym (from_le_bytes-to_le_bytes_4 a.object p.object.1) ∙ ap number e ∙ from_le_bytes-to_le_bytes_4 b.object q.object.1 in
    let extra = sym (from_le_bytes-to_le_bytes_4 a.extra (extra_fits a.extra p.extra)) ∙ ap (λ (bytes : List ℕ). number (drop 4 bytes)) e ∙ from_le_bytes-to_le_bytes_4 b.extra (extra_fits b.extra q.extra) in
    λ i. record { play = play i; scene = same_scene i; object = object i; extra = extra i }

-- ---- numbers

bits_fit : (n : ℤ) → FitsSigned w64 n → cast_unsigned w64 n < 2 ^ 64
bits_fit (pos n) fits = omega (arith, fits.sfits)
bits_fit (negsuc n) fits = omega arith

-- the bytes at a field of such a row
number_is : (field : ℕ) (row : ImageRow) (at : IsAt field row) → number_bytes field row ≡ to_le_bytes w64 (cast_unsigned w64 at.number)
number_is field row at = ap (λ (value : Option Stored). unwrap_or (option_map (value_bytes (record { rows = []; externals = [] }) I64) value) []) at.value

number_told : (field : ℕ) (a b : ImageRow) → IsAt field a → IsAt field b → number_bytes field a ≡ number_bytes field b → value_at 1 field a ≡ value_at 1 field b
number_told field a b p q e =
    let bits = sym (from_le_bytes-to_le_bytes_8 _ (bits_fit p.number p.range)) ∙ ap (from_le_bytes w64) (sym (number_is field a p) ∙ e ∙ number_is field b q) ∙ from_le_bytes-to_le_bytes_8 _ (bits_fit q.number q.range) in
    let number = sym (to_z-of_z w64 p.number p.range) ∙ ap (cast_signed w64) bits ∙ to_z-of_z w64 q.number q.range in
    p.value ∙ ap (λ (n : ℤ). Some (stored.Num n)) number ∙ sym q.value

-- rows have the same values at a field
abbrev pub SameAt : List ImageRow → List ImageRow → ℕ → Type 0
SameAt a b field = map (value_at 1 field) a ≡ map (value_at 1 field) b

-- what holds at a number and at all behind it holds from it on
from_more : (P : ℕ → Type 0) (from count : ℕ) → P from → ((i : ℕ) → from + 1 ≤ i → i < from + 1 + count → P i) → (i : ℕ) → from ≤ i → i < from + suc count → P i
from_more P from count here there i low high =
    elim (eq-or-lt_of_le low) [
      | inl same ↦ subst P same here
      | inr above ↦ there i (omega (arith, above)) (omega (arith, high))
    ]

columns_told : (all count from : ℕ) (a b : List ImageRow) (r s : List ℕ) → from + count ≤ all → length a ≡ length b → All (HoldsNumbers all) a → All (HoldsNumbers all) b → number_columns a from count ++ r ≡ number_columns b from count ++ s
    → ((field : ℕ) → from ≤ field → field < from + count → SameAt a b field) × (r ≡ s)
columns_told all zero from a b r s within same p q e = (λ field low high. absurd (omega arith), e)
columns_told all (suc count) from a b r s within same p q e =
    let at : (row : ImageRow) → HoldsNumbers all row → IsAt from row = λ row. number_there all from row (omega arith) in
    let regrouped = sym (append_assoc (number_column a from) (number_columns a (from + 1) count) r) ∙ e ∙ append_assoc (number_column b from) (number_columns b (from + 1) count) s in
    let here = same_pieces (number_bytes from) (value_at 1 from) 8 (HoldsNumbers all) (λ x h. ap length (number_is from x (at x h))) (λ x y h k. number_told from x y (at x h) (at y k)) a b _ _ same p q regrouped in
    let there = columns_told all count (from + 1) a b r s (omega arith) same p q here.1 in
    (from_more (SameAt a b) from count here.0 there.0, there.1)

-- ---- rows

numbers_told : (a b : List ℤ) → length a ≡ length b → ((i : ℕ) → i < length a → slice_get (map stored.Num a) i ≡ slice_get (map stored.Num b) i) → a ≡ b
numbers_told [] [] same at = refl
numbers_told [] (m ∷ ms) same at = absurd (omega arith)
numbers_told (n ∷ ns) [] same at = absurd (omega arith)
numbers_told (n ∷ ns) (m ∷ ms) same at =
    let here : Some (stored.Num n) ≡ Some (stored.Num m) = at 0 (omega arith) in
    let number : n ≡ m = cc in
    let others = numbers_told ns ms (omega arith) (λ i lt. at (suc i) (omega arith)) in
    λ i. number i ∷ others i

cells_told : (count : ℕ) (a b : ImageRow) → HoldsNumbers count a → HoldsNumbers count b → ((field : ℕ) → field < count → value_at 1 field a ≡ value_at 1 field b) → a.cells ≡ b.cells
cells_told count a b p q at =
    let numbers = numbers_told p.numbers q.numbers (p.long ∙ sym q.long) (λ i lt. sym (ap (cells_at i) p.cells) ∙ at i (omega (arith, p.long, lt)) ∙ ap (cells_at i) q.cells) in
    p.cells ∙ ap number_cells numbers ∙ sym q.cells

head_same : {A : Type 0} (x y : A) (xs ys : List A) → x ∷ xs ≡ y ∷ ys → x ≡ y
head_same x y xs ys e = cc

tail_same : {A : Type 0} (x y : A) (xs ys : List A) → x ∷ xs ≡ y ∷ ys → xs ≡ ys
tail_same x y xs ys e = cc

rows_told : (count : ℕ) (a b : List ImageRow) → All (HoldsNumbers count) a → All (HoldsNumbers count) b → map (λ row. row.name) a ≡ map (λ row. row.name) b → ((field : ℕ) → field < count → SameAt a b field) → a ≡ b
rows_told count [] [] p q names at = refl
rows_told count [] (y ∷ ys) p q names at = absurd (cc)
rows_told count (x ∷ xs) [] p q names at = absurd (cc)
rows_told count (x ∷ xs) (y ∷ ys) p q names at =
    let name = head_same x.name y.name (map (λ row. row.name) xs) (map (λ row. row.name) ys) names in
    let cells = cells_told count x y (All-head (HoldsNumbers count) x xs p) (All-head (HoldsNumbers count) y ys q) (λ field lt. head_same _ _ (map (value_at 1 field) xs) (map (value_at 1 field) ys) (at field lt)) in
    let others = rows_told count xs ys (All-tail (HoldsNumbers count) x xs p) (All-tail (HoldsNumbers count) y ys q) (tail_same x.name y.name (map (λ row. row.name) xs) (map (λ row. row.name) ys) names) (λ field lt. tail_same (value_at 1 field x) (value_at 1 field y) (map (value_at 1 field) xs) (map (value_at 1 field) ys) (at field lt)) in
    λ i. record { name = name i; cells = cells i } ∷ others i

-- ---- whole texts

-- what lets a list of rows be told from its spelling
pub record AreTold (scene count : ℕ) (rows : List ImageRow) : Type 0 where
  pub names : All (λ row. IsName scene row.name) rows
  pub numbers : All (HoldsNumbers count) rows
  pub few : length rows ≤ 65536

header_told : (p q : Place) (j k m n : ℕ) (r s : List ℕ) → m ≤ 65536 → n ≤ 65536 → header p j m 0 ++ r ≡ header q k n 0 ++ s → (p ≡ q) × (m ≡ n) × (r ≡ s)
header_told p q j k m n r s low high e =
    let both = same_front (header p j m 0) (header q k n 0) r s refl e in
    let scene : p.scene ≡ q.scene = ap (λ (bytes : List ℕ). get_or bytes 6 0) both.0 in
    let section : p.section ≡ q.section = ap (λ (bytes : List ℕ). get_or bytes 7 0) both.0 in
    let count = sym (from_le_bytes-to_le_bytes_4 m (omega arith)) ∙ ap (λ (bytes : List ℕ). from_le_bytes w32 (take 4 (drop 12 bytes))) both.0 ∙ from_le_bytes-to_le_bytes_4 n (omega arith) in
    (λ i. record { scene = scene i; section = section i }, count, both.1)

archetypes_told : (scene count : ℕ) (a b : List ImageRow) (rest : List ℕ) → length a ≡ length b → AreTold scene count a → AreTold scene count b → number_archetype count a ++ rest ≡ number_archetype count b → (a ≡ b) × (rest ≡ [])
archetypes_told scene count a b rest same p q e =
    let front : List ImageRow → List ℕ = λ rows. 1 ∷ 1 ∷ to_le_bytes w32 (length rows) in
    let names : List ImageRow → List ℕ = λ rows. flat_map (λ row. name_bytes row.name) rows in
    let columns : List ImageRow → List ℕ = λ rows. number_columns rows 0 count in
    let parted : (rows : List ImageRow) (back : List ℕ) → number_archetype count rows ++ back ≡ front rows ++ (names rows ++ (columns rows ++ back)) =
    λ rows back. append_assoc (front rows ++ flat_map name_bytes (names_of rows)) (columns rows) back ∙ append_assoc (front rows) (flat_map name_bytes (names_of rows)) _ ∙ ap (λ (those : List ℕ). front rows ++ (those ++ (columns rows ++ back))) (flat_map-map name_bytes (λ row. row.name) rows) in
    let whole = sym (parted a rest) ∙ e ∙ sym (append-nil (number_archetype count b)) ∙ parted b [] in
    let six : length (front a) ≡ length (front b) = refl {a = 6} in
    let first = same_front (front a) (front b) _ _ six whole in
    let second = same_pieces (λ row. name_bytes row.name) (λ row. row.name) 8 (λ row. IsName scene row.name) (λ x is. refl {a = 8}) (λ x y is js. name_told scene x.name y.name is js) a b _ _ same p.names q.names first.1 in
    let third = columns_told count count 0 a b rest [] (omega arith) same p.numbers q.numbers second.1 in
    (rows_told count a b p.numbers q.numbers second.0 (λ field lt. third.0 field (omega arith) (omega (arith, lt))), third.1)

texts_told : (p q : Place) (count : ℕ) (a b : List ImageRow) (rest : List ℕ) → AreTold p.scene count a → AreTold q.scene count b → number_text p count a ++ rest ≡ number_text q count b → (p ≡ q) × (a ≡ b) × (rest ≡ [])
texts_told p q count [] [] rest told also e =
    let parts = header_told p q 0 0 0 0 rest [] (omega arith) (omega arith) (e ∙ sym (append-nil (header q 0 0 0))) in
    (parts.0, refl, parts.2)
texts_told p q count [] (y ∷ ys) rest told also e =
    let parts = header_told p q 0 1 0 (length (y ∷ ys)) rest (number_archetype count (y ∷ ys)) (omega arith) also.few e in
    absurd (omega (arith, parts.1))
texts_told p q count (x ∷ xs) [] rest told also e =
    let parts = header_told p q 1 0 (length (x ∷ xs)) 0 (number_archetype count (x ∷ xs) ++ rest) [] told.few (omega arith) (sym (append_assoc (header p 1 (length (x ∷ xs)) 0) (number_archetype count (x ∷ xs)) rest) ∙ e ∙ sym (append-nil (header q 0 0 0))) in
    absurd (omega (arith, parts.1))
texts_told p q count (x ∷ xs) (y ∷ ys) rest told also e =
    let parts = header_told p q 1 1 (length (x ∷ xs)) (length (y ∷ ys)) (number_archetype count (x ∷ xs) ++ rest) (number_archetype count (y ∷ ys)) told.few also.few (sym (append_assoc (header p 1 (length (x ∷ xs)) 0) (number_archetype count (x ∷ xs)) rest) ∙ e) in
    let there = subst (λ (place : Place). AreTold place.scene count (y ∷ ys)) (sym parts.0) also in
    let rows = archetypes_told p.scene count (x ∷ xs) (y ∷ ys) rest parts.1 told there parts.2 in
    (parts.0, rows.0, rows.1)

are_told : (types : Types) (image : Image) → IsValid types image → IsPlain types image → AreTold image.place.scene (field_count types) image.rows
are_told types image valid plain = record {
  names = λ k d lt. (valid.rows k d lt).name;
  numbers = each_holds_numbers types image valid plain;
  few = valid.count;
}

images_told : (types : Types) (a b : Image) (text rest : List ℕ) → IsValid types a → IsPlain types a → IsValid types b → IsPlain types b → Spells types text a → Spells types (text ++ rest) b → (a ≡ b) × (rest ≡ [])
images_told types a b text rest va pa vb pb sa sb =
    let of_a = one_spelling_lem types text (spelling types a) a sa (has_spelling_lem types a) ∙ spelling-plain types a va pa in
    let of_b = one_spelling_lem types (text ++ rest) (spelling types b) b sb (has_spelling_lem types b) ∙ spelling-plain types b vb pb in
    let parts = texts_told a.place b.place (field_count types) a.rows b.rows rest (are_told types a va pa) (are_told types b vb pb) (sym (ap (λ (bytes : List ℕ). bytes ++ rest) of_a) ∙ of_b) in
    (λ i. record { place = parts.0 i; rows = parts.1 i }, parts.2)

pub images_apart_lem : (types : Types) (text : List ℕ) (a b : Image) → IsValid types a → IsPlain types a → IsValid types b → IsPlain types b → Spells types text a → Spells types text b → a ≡ b
images_apart_lem types text a b va pa vb pb sa sb = (images_told types a b text [] va pa vb pb sa (subst (λ (bytes : List ℕ). Spells types bytes b) (sym (append-nil text)) sb)).0

pub no_longer_spelling : (types : Types) (text rest : List ℕ) (a b : Image) → IsValid types a → IsPlain types a → IsValid types b → IsPlain types b → Spells types text a → Spells types (text ++ rest) b → rest ≡ []
no_longer_spelling types text rest a b va pa vb pb sa sb = (images_told types a b text rest va pa vb pb sa sb).1
