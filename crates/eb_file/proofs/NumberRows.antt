-- An image whose rows are objects with numbers is valid and plain.
use Rattle.std.proofs.Common.{◌≡◌, ℕ, ℤ, ◌<◌, ◌≤◌, ◌^◌, Option, Some, None, List, [], ◌∷◌, length, map, refl, sym, ap, subst, inl, All, arith}
use Rattle.std.specs.Prelude.{FitsSigned, IsSomeAnd}
use Rattle.std.specs.Cmp.{nat_cmp_total, tied_itself}
use Rattle.std.specs.Int.{w64}
use Rattle.std.specs.List.{AllByRecursion, AllZip}
use Rattle.std.specs.List.Sorted.{IsStrictlySortedBy}
use Rattle.std.specs.Ordering.{nat_cmp, ordering_then}
use Rattle.std.specs.declared.cmp.Ordering.TheVariants.{Less, Equal}
use Rattle.std.proofs.lemmas.List.{length-map}
use Rattle.std.proofs.lemmas.List.Elements.{All-cons, All-head, All-nil, All-tail}
use Rattle.eb_base.specs.declared.names.Name.{Name}
use Rattle.eb_base.specs.declared.names.Place.{Place}
use Rattle.eb_schema.specs.declared.kinds.Kind.TheVariants.{I64}
use Rattle.eb_schema.specs.declared.kinds.Field.{Field}
use Rattle.eb_schema.specs.declared.kinds.Component.{Component}
use Rattle.eb_schema.specs.declared.kinds.Mode.TheVariants.{Stored}
use Rattle.eb_schema.specs.Schemas.{Types, component_of, plain_field, plain_types}
use Rattle.eb_file.specs.declared.images.Stored.TheVariants as stored
use Rattle.eb_file.specs.declared.images.ImageRow.{ImageRow}
use Rattle.eb_file.specs.declared.images.Image.{Image}
use Rattle.eb_file.specs.Ascending.{each_once}
use Rattle.eb_file.specs.Images.{IsValid, IsPlain, IsRow, CellFits, ValueFits, externals_of, name_cmp, names_of, types_of}
use Rattle.eb_file.specs.Plain.{HoldsNumbers, HasNumberType, IsNumberType, field_count, number_row, numbers_row}
use Rattle.eb_file.proofs.PlainImages.{HasNumberFields, its_fields, no_zeros}

-- the name of an object's own entity
abbrev own_name : ℕ → ℕ → Name
own_name scene object = record { play = 0; scene = scene; object = object; extra = 0 }

own_names : (scene a b : ℕ) → nat_cmp a b ≡ Less → name_cmp (own_name scene a) (own_name scene b) ≡ Less
own_names scene a b less = λ i. ordering_then (tied_itself nat_cmp_total scene i) (ordering_then (less i) Equal)

-- the values of number fields fit
values_fit : (image : Image) (fields : List Field) (numbers : List ℤ) → All (λ field. field.kind ≡ I64) fields → length numbers ≡ length fields → All (FitsSigned w64) numbers → AllZip (λ field value. ValueFits image field.kind value) fields (map stored.Num numbers)
values_fit image [] [] kinds same fit = tt
values_fit image [] (n ∷ ns) kinds same fit = absurd (omega arith)
values_fit image (f ∷ fs) [] kinds same fit = absurd (omega arith)
values_fit image (f ∷ fs) (n ∷ ns) kinds same fit =
    (subst (λ k. ValueFits image k (stored.Num n)) (sym (All-head (λ field. field.kind ≡ I64) f fs kinds)) (All-head (FitsSigned w64) n ns fit), values_fit image fs ns (All-tail (λ field. field.kind ≡ I64) f fs kinds) (omega arith) (All-tail (FitsSigned w64) n ns fit))

cell_fits : (image : Image) (o : Option Component) (numbers : List ℤ) → IsSomeAnd o IsNumberType → length numbers ≡ length (its_fields o) → All (FitsSigned w64) numbers
    → IsSomeAnd o (λ c. (c.mode ≡ Stored) × AllZip (λ field value. ValueFits image field.kind value) c.fields (map stored.Num numbers))
cell_fits image None numbers is same fit = absurd is
cell_fits image (Some c) numbers is same fit = (is.0, values_fit image c.fields numbers is.1 same fit)

number_fields_of : (o : Option Component) → IsSomeAnd o IsNumberType → HasNumberFields o
number_fields_of None is = absurd is
number_fields_of (Some c) is = is.1

-- ---- rows of objects with numbers

module _ {X : Type 0} (types : Types) (object : X → ℕ) (numbers : X → List ℤ) where
  abbrev pub rows_of : ℕ → List X → List ImageRow
  rows_of scene xs = map (λ x. numbers_row scene (object x) (numbers x)) xs

  -- what each of them has to be
  abbrev pub IsNumbered : X → Type 0
  IsNumbered x = (0 < object x) × (object x < 2 ^ 32) × (length (numbers x) ≡ field_count types) × All (FitsSigned w64) (numbers x)

  below : (scene a : ℕ) (xs : List X) → AllByRecursion (λ b. nat_cmp a b ≡ Less) (map object xs) → AllByRecursion (λ name. name_cmp (own_name scene a) name ≡ Less) (names_of (rows_of scene xs))
  below scene a [] all = tt
  below scene a (x ∷ xs) all = (own_names scene a (object x) all.0, below scene a xs all.1)

  ascending : (scene : ℕ) (xs : List X) → IsStrictlySortedBy nat_cmp (map object xs) → IsStrictlySortedBy name_cmp (names_of (rows_of scene xs))
  unfolding IsStrictlySortedBy
  ascending scene [] sorted = tt
  ascending scene (x ∷ xs) sorted = (below scene (object x) xs sorted.0, ascending scene xs sorted.1)

  each_row : (Q : X → Type 0) (P : ImageRow → Type 0) (scene : ℕ) (xs : List X) → ((x : X) → Q x → P (numbers_row scene (object x) (numbers x))) → All Q xs → All P (rows_of scene xs)
  each_row Q P scene [] one all = All-nil P
  each_row Q P scene (x ∷ xs) one all =
      All-cons P (numbers_row scene (object x) (numbers x)) (rows_of scene xs) (one x (All-head Q x xs all)) (each_row Q P scene xs one (All-tail Q x xs all))

  row-IsRow : HasNumberType types → (image : Image) (x : X) → IsNumbered x → IsRow types image (numbers_row image.place.scene (object x) (numbers x))
  unfolding IsStrictlySortedBy
  row-IsRow typed image x is = record {
    name = record { play = refl; scene = refl; object = (is.0, is.1); extra = inl refl };
    few = omega arith;
    order = (tt, tt);
    cells = All-cons (CellFits types image) (record { kind = 1; values = map stored.Num (numbers x) }) [] (cell_fits image (component_of types 1) (numbers x) typed is.2 is.3) (All-nil (CellFits types image));
  }

  no_externals : (rows : List ImageRow) → All (HoldsNumbers (field_count types)) rows → externals_of rows ≡ []
  unfolding each_once
  no_externals rows all = ap (each_once name_cmp) (no_zeros (field_count types) rows all)

  pub valid_rows : HasNumberType types → (place : Place) (xs : List X) → 0 < place.scene → place.scene ≤ 16 → place.section ≤ 63 → length xs ≤ 65536 → IsStrictlySortedBy nat_cmp (map object xs) → All IsNumbered xs
      → IsValid types (record { place = place; rows = rows_of place.scene xs })
  valid_rows typed place xs low high section count sorted all =
      let image : Image = record { place = place; rows = rows_of place.scene xs } in
      let hold : All (HoldsNumbers (field_count types)) image.rows = each_row IsNumbered (HoldsNumbers (field_count types)) place.scene xs (λ x is. record { numbers = numbers x; cells = refl; long = is.2; range = is.3 }) all in
      record {
        scene = (low, high);
        section = section;
        count = rw length-map count;
        order = ascending place.scene xs sorted;
        rows = each_row IsNumbered (IsRow types image) place.scene xs (row-IsRow typed image) all;
        externals = rw (no_externals image.rows hold) (omega arith);
      }

  pub plain_rows : HasNumberType types → (place : Place) (xs : List X) → IsPlain types (record { place = place; rows = rows_of place.scene xs })
  plain_rows typed place xs = record {
    fields = λ some. number_fields_of (component_of types 1) typed;
    rows = each_row (λ x. Unit {0}) (λ row. types_of row ≡ 1 ∷ []) place.scene xs (λ x is. refl) (λ k d lt. tt);
  }

-- ---- the same with one number each

one_field : HasNumberType plain_types
unfolding plain_types
one_field = (refl, All-cons (λ field. field.kind ≡ I64) plain_field [] refl (All-nil (λ field. field.kind ≡ I64)))

one_number_fits : (n : ℤ) → FitsSigned w64 n → All (FitsSigned w64) (n ∷ [])
one_number_fits n fit = All-cons (FitsSigned w64) n [] fit (All-nil (FitsSigned w64))

module _ {X : Type 0} (object : X → ℕ) (number : X → ℤ) where
  pub valid_numbers : (place : Place) (xs : List X) → 0 < place.scene → place.scene ≤ 16 → place.section ≤ 63 → length xs ≤ 65536 → IsStrictlySortedBy nat_cmp (map object xs) → All (λ x. (0 < object x) × (object x < 2 ^ 32) × FitsSigned w64 (number x)) xs
      → IsValid plain_types (record { place = place; rows = map (λ x. number_row place.scene (object x) (number x)) xs })
  unfolding plain_types
  valid_numbers place xs low high section count sorted all =
      valid_rows plain_types object (λ x. number x ∷ []) one_field place xs low high section count sorted (λ k d lt. let is = all k d lt in (is.0, is.1, refl, one_number_fits _ is.2))

  pub plain_numbers : (place : Place) (xs : List X) → IsPlain plain_types (record { place = place; rows = map (λ x. number_row place.scene (object x) (number x)) xs })
  plain_numbers place xs = plain_rows plain_types object (λ x. number x ∷ []) one_field place xs

-- ---- no rows

-- an image without rows is valid, whatever the schema
pub valid_empty : (types : Types) (place : Place) → 0 < place.scene → place.scene ≤ 16 → place.section ≤ 63 → IsValid types (record { place = place; rows = [] })
unfolding IsStrictlySortedBy each_once
valid_empty types place low high section = record {
  scene = (low, high);
  section = section;
  count = omega arith;
  order = tt;
  rows = All-nil (IsRow types (record { place = place; rows = [] }));
  externals = omega arith;
}

-- and plain
pub plain_empty : (types : Types) (place : Place) → IsPlain types (record { place = place; rows = [] })
plain_empty types place = record { fields = λ there. absurd (omega (arith, there)); rows = All-nil (λ row. types_of row ≡ 1 ∷ []) }
