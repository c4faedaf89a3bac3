-- The spelling of an image whose rows have numbers alone.
use Rattle.std.proofs.Common.{◌≡◌, ℕ, ◌+◌, ◌<◌, ℤ, cond, Option, Some, None, List, [], ◌∷◌, ◌++◌, length, map, get_or, refl, ap, subst, ◌∙◌, All, arith}
use Rattle.std.specs.Prelude.{FitsSigned, IsSomeAnd, flat_map, nat_eq, option_map, unwrap_or}
use Rattle.std.specs.Cmp.Lexicographic.{pointwise}
use Rattle.std.specs.Int.{w32, w64, to_le_bytes}
use Rattle.std.specs.List.{AllZip, enumerate_from}
use Rattle.std.proofs.lemmas.List.{append-nil}
use Rattle.std.proofs.lemmas.List.Elements.{All-cons, All-head, All-nil, All-tail}
use Rattle.eb_base.specs.declared.names.Place.{Place}
use Rattle.eb_schema.specs.declared.kinds.Field.{Field}
use Rattle.eb_schema.specs.declared.kinds.Component.{Component}
use Rattle.eb_schema.specs.declared.kinds.Kind.TheVariants.{I64}
use Rattle.eb_schema.specs.declared.kinds.Mode.TheVariants as modes
use Rattle.eb_schema.specs.Schemas.{Types, component_of}
use Rattle.eb_file.specs.declared.images.Stored.{Stored}
use Rattle.eb_file.specs.declared.images.Stored.TheVariants as stored
use Rattle.eb_file.specs.declared.images.StoredCell.{StoredCell}
use Rattle.eb_file.specs.declared.images.ImageRow.{ImageRow}
use Rattle.eb_file.specs.declared.images.Image.{Image}
use Rattle.eb_file.specs.Ascending.{put_once, each_once}
use Rattle.eb_file.specs.Images.{IsValid, IsPlain, CellFits, ValueFits, name_cmp, names_of, types_of, zero_name, zero_names}
use Rattle.eb_file.specs.Plain.{HoldsNumbers, field_count, number_column, number_columns, number_archetype, number_text}
use Rattle.eb_file.specs.Spelling.{Numbers, spelling, text_of, header, archetype, types_cmp, rows_with, column, fields_of, name_bytes, value_at, value_bytes}

-- all fields of the component type are numbers of 64 bits
abbrev pub HasNumberFields : Option Component → Type 0
HasNumberFields o = IsSomeAnd o (λ c. All (λ field. field.kind ≡ I64) c.fields)

-- the fields of a component type that may be there
abbrev pub its_fields : Option Component → List Field
its_fields o = unwrap_or (option_map (λ c. c.fields) o) []

-- ---- each row holds numbers

-- so many values, all of them numbers
record AreNumbers (count : ℕ) (values : List Stored) : Type 0 where
  numbers : List ℤ
  values_are : values ≡ map stored.Num numbers
  long : length numbers ≡ count
  range : All (FitsSigned w64) numbers

one_number : (image : Image) (value : Stored) → ValueFits image I64 value → (n : ℤ) × (value ≡ stored.Num n) × FitsSigned w64 n
one_number image (stored.Num n) fit = (n, refl, fit)
one_number image (stored.Link l) fit = absurd fit

-- the values of fields that are numbers of 64 bits
numbers_of : (image : Image) (fields : List Field) (values : List Stored) → All (λ field. field.kind ≡ I64) fields → AllZip (λ field value. ValueFits image field.kind value) fields values → AreNumbers (length fields) values
numbers_of image [] [] kinds fit = record { numbers = []; values_are = refl; long = refl; range = All-nil (FitsSigned w64) }
numbers_of image [] (v ∷ vs) kinds fit = absurd fit
numbers_of image (f ∷ fs) [] kinds fit = absurd fit
numbers_of image (f ∷ fs) (v ∷ vs) kinds fit =
    let kind : f.kind ≡ I64 = All-head (λ field. field.kind ≡ I64) f fs kinds in
    let one = one_number image v (subst (λ k. ValueFits image k v) kind fit.0) in
    let others = numbers_of image fs vs (All-tail (λ field. field.kind ≡ I64) f fs kinds) fit.1 in
    record {
      numbers = one.0 ∷ others.numbers;
      values_are = λ i. one.1 i ∷ others.values_are i;
      long = omega (arith, others.long);
      range = All-cons (FitsSigned w64) one.0 others.numbers one.2 others.range;
    }

in_type : (image : Image) (o : Option Component) (values : List Stored) → IsSomeAnd o (λ c. (c.mode ≡ modes.Stored) × AllZip (λ field value. ValueFits image field.kind value) c.fields values) → HasNumberFields o → AreNumbers (length (its_fields o)) values
in_type image None values fit kinds = absurd fit
in_type image (Some c) values fit kinds = numbers_of image c.fields values kinds fit.1

-- the row that has type 1 alone
one_cell : (types : Types) (image : Image) (row : ImageRow) (cells : List StoredCell) → row.cells ≡ cells → HasNumberFields (component_of types 1) → All (CellFits types image) cells → map (λ cell. cell.kind) cells ≡ 1 ∷ [] → HoldsNumbers (field_count types) row
one_cell types image row [] same kinds fit is = absurd (cc)
one_cell types image row (cell ∷ []) same kinds fit is =
    let kind : cell.kind ≡ 1 = cc in
    let here : CellFits types image cell = All-head (CellFits types image) cell [] fit in
    let there = subst (λ k. IsSomeAnd (component_of types k) (λ c. (c.mode ≡ modes.Stored) × AllZip (λ field value. ValueFits image field.kind value) c.fields cell.values)) kind here in
    let held = in_type image (component_of types 1) cell.values there kinds in
    record {
      numbers = held.numbers;
      cells = same ∙ (λ i. record { kind = kind i; values = held.values_are i } ∷ []);
      long = held.long;
      range = held.range;
    }
one_cell types image row (cell ∷ other ∷ cells) same kinds fit is = absurd (cc)

pub each_holds_numbers : (types : Types) (image : Image) → IsValid types image → IsPlain types image → All (HoldsNumbers (field_count types)) image.rows
each_holds_numbers types image valid plain k d lt =
    let row = get_or image.rows k d in
    one_cell types image row row.cells refl (plain.fields (omega (arith, lt))) (valid.rows k d lt).cells (plain.rows k d lt)

-- ---- their one archetype

no_zero : (numbers : List ℤ) → flat_map zero_name (map stored.Num numbers) ≡ []
no_zero [] = refl
no_zero (n ∷ ns) = no_zero ns

-- rows with numbers alone lead nowhere
pub no_zeros : (count : ℕ) (rows : List ImageRow) → All (HoldsNumbers count) rows → zero_names rows ≡ []
no_zeros count [] all = refl
no_zeros count (row ∷ rows) all =
    let here = All-head (HoldsNumbers count) row rows all in
    ap (λ (cells : List StoredCell). flat_map (λ cell. flat_map zero_name cell.values) cells ++ zero_names rows) here.cells
    ∙ ap (λ (those : List _). (those ++ []) ++ zero_names rows) (no_zero here.numbers)
    ∙ no_zeros count rows (All-tail (HoldsNumbers count) row rows all)

one_type : (count : ℕ) (row : ImageRow) (rows : List ImageRow) → All (HoldsNumbers count) (row ∷ rows) → types_of row ≡ 1 ∷ []
one_type count row rows all = ap (map (λ cell. cell.kind)) (All-head (HoldsNumbers count) row rows all).cells

one_archetype : (count : ℕ) (row : ImageRow) (rows : List ImageRow) → All (HoldsNumbers count) (row ∷ rows) → each_once types_cmp (map types_of (row ∷ rows)) ≡ (1 ∷ []) ∷ []
unfolding each_once put_once
one_archetype count row [] all = ap (λ (types : List ℕ). types ∷ []) (one_type count row [] all)
one_archetype count row (next ∷ rows) all =
    ap (put_once types_cmp (types_of row)) (one_archetype count next rows (All-tail (HoldsNumbers count) row (next ∷ rows) all))
    ∙ ap (λ (types : List ℕ). put_once types_cmp types ((1 ∷ []) ∷ [])) (one_type count row (next ∷ rows) all)

all_rows : (count : ℕ) (rows : List ImageRow) → All (HoldsNumbers count) rows → rows_with rows (1 ∷ []) ≡ rows
all_rows count [] all = refl
all_rows count (row ∷ rows) all =
    ap (λ (types : List ℕ). cond (pointwise nat_eq types (1 ∷ [])) (row ∷ rows_with rows (1 ∷ [])) (rows_with rows (1 ∷ []))) (one_type count row rows all)
    ∙ ap (λ (others : List ImageRow). row ∷ others) (all_rows count rows (All-tail (HoldsNumbers count) row rows all))

-- ---- columns

-- a field of 64 bits has the same bytes, whatever references are counted by
bytes_alike : (a b : Numbers) (value : Stored) → value_bytes a I64 value ≡ value_bytes b I64 value
bytes_alike a b (stored.Num n) = refl
bytes_alike a b (stored.Link l) = refl

one_column : (numbers : Numbers) (rows : List ImageRow) (index : ℕ) (field : Field) → field.kind ≡ I64 → column numbers rows 1 (index, field) ≡ number_column rows index
one_column numbers rows index field kind =
    let alike : value_bytes numbers field.kind ≡ value_bytes (record { rows = []; externals = [] }) I64 = ap (value_bytes numbers) kind ∙ (λ i v. bytes_alike numbers (record { rows = []; externals = [] }) v i) in
    λ i. flat_map (λ row. unwrap_or (option_map (alike i) (value_at 1 index row)) []) rows

each_column : (numbers : Numbers) (rows : List ImageRow) (from : ℕ) (fields : List Field) → All (λ field. field.kind ≡ I64) fields → flat_map (column numbers rows 1) (enumerate_from from fields) ≡ number_columns rows from (length fields)
each_column numbers rows from [] kinds = refl
each_column numbers rows from (f ∷ fs) kinds =
    let here = one_column numbers rows from f (All-head (λ field. field.kind ≡ I64) f fs kinds) in
    let others = each_column numbers rows (from + 1) fs (All-tail (λ field. field.kind ≡ I64) f fs kinds) in
    λ i. here i ++ others i

number_fields : (o : Option Component) → HasNumberFields o → All (λ field. field.kind ≡ I64) (its_fields o)
number_fields None is = absurd is
number_fields (Some c) is = is

-- the archetype of type 1 over rows that hold numbers
archetype-numbers : (types : Types) (numbers : Numbers) (rows : List ImageRow) → HasNumberFields (component_of types 1) → All (HoldsNumbers (field_count types)) rows
    → archetype types numbers rows (1 ∷ []) ≡ number_archetype (field_count types) rows
archetype-numbers types numbers rows fields all =
    let front : List ImageRow → List ℕ = λ those. 1 ∷ 1 ∷ to_le_bytes w32 (length those) ++ flat_map name_bytes (names_of those) in
    let same = all_rows (field_count types) rows all in
    let columns = each_column numbers rows 0 (its_fields (component_of types 1)) (number_fields (component_of types 1) fields) in
    (λ i. front (same i) ++ (flat_map (column numbers (same i) 1) (fields_of types 1) ++ []))
    ∙ ap (λ (back : List ℕ). front rows ++ back) (append-nil _ ∙ columns)

numbers_spelled : (types : Types) (place : Place) (rows : List ImageRow) → (0 < length rows → HasNumberFields (component_of types 1)) → All (HoldsNumbers (field_count types)) rows
    → spelling types (record { place = place; rows = rows }) ≡ number_text place (field_count types) rows
unfolding spelling each_once
numbers_spelled types place [] fields all = refl
numbers_spelled types place (row ∷ rows) fields all =
    let image : Image = record { place = place; rows = row ∷ rows } in
    let numbers : Numbers = record { rows = names_of (flat_map (rows_with (row ∷ rows)) ((1 ∷ []) ∷ [])); externals = [] } in
    (λ i. text_of types image (one_archetype (field_count types) row rows all i) (each_once name_cmp (no_zeros (field_count types) (row ∷ rows) all i)))
    ∙ append-nil _
    ∙ ap (λ (back : List ℕ). header place 1 (length (row ∷ rows)) 0 ++ back) (append-nil _ ∙ archetype-numbers types numbers (row ∷ rows) (fields (omega arith)) all)

-- the spelling of a valid plain image
pub spelling-plain : (types : Types) (image : Image) → IsValid types image → IsPlain types image → spelling types image ≡ number_text image.place (field_count types) image.rows
spelling-plain types image valid plain = numbers_spelled types image.place image.rows plain.fields (each_holds_numbers types image valid plain)
