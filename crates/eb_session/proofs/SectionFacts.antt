-- Why the image of what is baked, where the guard lets it pass, is one that a section file can hold.
use Rattle.std.proofs.Common.{◌≡◌, ℕ, ◌<◌, ◌≤◌, ℤ, pos, negsuc, Bool, true, false, List, [], ◌∷◌, ◌++◌, length, map, refl, sym, ap, subst, ◌∙◌, inl, inr, All, arith}
use Rattle.std.specs.Prelude.{◌&&◌, ◌||◌, ◌==◌, ◌⊎◌, nat_le, Option, Some, None, flat_map, FitsSigned, IsSomeAnd}
use Rattle.std.specs.Int.{w64}
use Rattle.std.specs.List.{AllByRecursion, AllZip, list_all}
use Rattle.std.specs.List.Sorted.{IsStrictlySortedBy}
use Rattle.std.specs.Map.{keys_of}
use Rattle.std.specs.FinMap.{entries, len, len-entries}
use Rattle.std.specs.Ordering.{nat_cmp}
use Rattle.std.proofs.lemmas.Bool.Decides.{nat_tests}
use Rattle.std.proofs.lemmas.List.{length-map}
use Rattle.std.proofs.lemmas.List.Elements.{recursion_from_All, All-from_recursion}
use Rattle.eb_base.specs.Arithmetic.{fits_i64}
use Rattle.eb_base.specs.declared.names.Name.{Name}
use Rattle.eb_base.specs.declared.names.Place.{Place}
use Rattle.eb_schema.specs.BakedEntities.{Entities}
use Rattle.eb_schema.specs.Schemas.{Types, component_of}
use Rattle.eb_schema.specs.declared.baked.BakedEntity.{BakedEntity}
use Rattle.eb_schema.specs.declared.kinds.Component.{Component}
use Rattle.eb_schema.specs.declared.kinds.Field.{Field}
use Rattle.eb_schema.specs.declared.kinds.Kind.{Kind}
use Rattle.eb_schema.specs.declared.kinds.Kind.TheVariants.{I8, I16, I32, I64, Fix, Ref, Asset}
use Rattle.eb_schema.specs.declared.kinds.Mode.{Mode}
use Rattle.eb_schema.specs.declared.kinds.Mode.TheVariants as mode
use Rattle.eb_schema.specs.declared.rows.Cell.{Cell}
use Rattle.eb_schema.specs.declared.rows.Val.{Val}
use Rattle.eb_schema.specs.declared.rows.Val.TheVariants as val
use Rattle.eb_schema.proofs.EntityMaps.{keys_ascend}
use Rattle.eb_scene.specs.Projects.{Content}
use Rattle.eb_file.specs.declared.images.Image.{Image}
use Rattle.eb_file.specs.declared.images.ImageRow.{ImageRow}
use Rattle.eb_file.specs.declared.images.StoredCell.{StoredCell}
use Rattle.eb_file.specs.declared.images.Stored.{Stored}
use Rattle.eb_file.specs.declared.images.Stored.TheVariants as stored
use Rattle.eb_file.specs.Ascending.{each_once}
use Rattle.eb_file.specs.Images.{name_cmp, names_of, types_of, zero_name, zero_names, externals_of, ValueFits, CellFits, IsName, IsRow, IsPlain}
use Rattle.eb_stream.specs.Loading.{IsNumber}
use Rattle.eb_session.specs.Images.{the_place, stored_of, stored_cell, stored_row, image_of, is_stored, is_whole_number, is_plain_type, is_whole, is_plain_cell, is_plain_row, is_extra, is_baked_name, is_the_place, is_plain_entity, has_scene_one_alone, is_plain}
use Rattle.eb_session.specs.Machine.{IsSection}

abbrev Named : Type 0
Named = Name × BakedEntity

-- ---- whole numbers

and_both : (a b : Bool) → a && b ≡ true → (a ≡ true) × (b ≡ true)
and_both true b both = (refl, both)
and_both false b both = absurd (cc)

whole_fits : (z : ℤ) → fits_i64 z ≡ true → FitsSigned w64 z
whole_fits (pos n) fits = record { sfits = grind (arith, nat_tests) }
whole_fits (negsuc n) fits = record { sfits = grind (arith, nat_tests) }

stored_mode : (m : Mode) → is_stored m ≡ true → m ≡ mode.Stored
stored_mode mode.Stored is = refl
stored_mode mode.Baking is = absurd (cc)
stored_mode mode.Only is = absurd (cc)

whole_kind : (k : Kind) → is_whole_number k ≡ true → k ≡ I64
whole_kind I64 is = refl
whole_kind I8 is = absurd (cc)
whole_kind I16 is = absurd (cc)
whole_kind I32 is = absurd (cc)
whole_kind Fix is = absurd (cc)
whole_kind Ref is = absurd (cc)
whole_kind Asset is = absurd (cc)

-- a number of 64 bits, as it is stored
abbrev IsWhole : Stored → Type 0
IsWhole (stored.Num z) = FitsSigned w64 z
IsWhole (stored.Link l) = ⊥

whole_value : (v : Val) → is_whole v ≡ true → IsWhole (stored_of v)
whole_value (val.Num z) is = whole_fits z is
whole_value (val.To name) is = absurd (cc)
whole_value val.Null is = absurd (cc)
whole_value val.Gone is = absurd (cc)

abbrev AreWhole : List Field → List Stored → Type 0
AreWhole = AllZip (λ (f : Field) (v : Stored). (f.kind ≡ I64) × IsWhole v)

whole_values : (fields : List Field) (values : List Val) → list_all (λ (f : Field). is_whole_number f.kind) fields ≡ true → list_all is_whole values ≡ true → length values ≡ length fields → AreWhole fields (map stored_of values)
whole_values [] [] kinds whole same = tt
whole_values [] (v ∷ vs) kinds whole same = absurd (omega (arith, same))
whole_values (f ∷ fs) [] kinds whole same = absurd (omega (arith, same))
whole_values (f ∷ fs) (v ∷ vs) kinds whole same =
    let kind = and_both (is_whole_number f.kind) (list_all (λ (f : Field). is_whole_number f.kind) fs) kinds in
    let value = and_both (is_whole v) (list_all is_whole vs) whole in
    ((whole_kind f.kind kind.0, whole_value v value.0), whole_values fs vs kind.1 value.1 (omega (arith, same)))

one_value : (image : Image) (k : Kind) (v : Stored) → k ≡ I64 → IsWhole v → ValueFits image k v
one_value image k (stored.Num z) same whole = rw same whole
one_value image k (stored.Link l) same whole = absurd whole

each_value : (image : Image) (fields : List Field) (values : List Stored) → AreWhole fields values → AllZip (λ (f : Field) (v : Stored). ValueFits image f.kind v) fields values
each_value image [] [] whole = tt
each_value image [] (v ∷ vs) whole = absurd whole
each_value image (f ∷ fs) [] whole = absurd whole
each_value image (f ∷ fs) (v ∷ vs) whole = (one_value image f.kind v whole.0.0 whole.0.1, each_value image fs vs whole.1)

one_number : (v : Stored) → IsWhole v → IsNumber v
one_number (stored.Num z) whole = tt
one_number (stored.Link l) whole = absurd whole

each_number : (fields : List Field) (values : List Stored) → AreWhole fields values → AllByRecursion IsNumber values
each_number [] [] whole = tt
each_number [] (v ∷ vs) whole = absurd whole
each_number (f ∷ fs) [] whole = absurd whole
each_number (f ∷ fs) (v ∷ vs) whole = (one_number v whole.0.1, each_number fs vs whole.1)

each_kind : (fields : List Field) (values : List Stored) → AreWhole fields values → AllByRecursion (λ (f : Field). f.kind ≡ I64) fields
each_kind [] values whole = tt
each_kind (f ∷ fs) [] whole = absurd whole
each_kind (f ∷ fs) (v ∷ vs) whole = (whole.0.0, each_kind fs vs whole.1)

-- ---- plain rows

-- values of component type 1, where it is stored and of whole numbers
record ArePlainValues (types : Types) (values : List Val) : Type 0 where
  component : Component
  found : component_of types 1 ≡ Some component
  stored_ : component.mode ≡ mode.Stored
  whole : AreWhole component.fields (map stored_of values)

plain_values : (types : Types) (values : List Val) (found : Option Component) → component_of types 1 ≡ found → is_plain_cell found values ≡ true → ArePlainValues types values
plain_values types values None is plain = absurd (cc)
plain_values types values (Some t) is plain =
    let both = and_both (is_plain_type t) ((length values == length t.fields) && list_all is_whole values) plain in
    let type = and_both (is_stored t.mode) (list_all (λ (f : Field). is_whole_number f.kind) t.fields) both.0 in
    let rest = and_both (length values == length t.fields) (list_all is_whole values) both.1 in
    let same : length values ≡ length t.fields = grind (arith, nat_tests) in
    record { component = t; found = is; stored_ = stored_mode t.mode type.0; whole = whole_values t.fields values type.1 rest.1 same }

-- what the cells of a plain row are, once they are stored
record ArePlainCells (types : Types) (image : Image) (cells : List StoredCell) : Type 0 where
  kinds : map (λ (c : StoredCell). c.kind) cells ≡ 1 ∷ []
  fits : AllByRecursion (CellFits types image) cells
  numbers : AllByRecursion (λ (c : StoredCell). All IsNumber c.values) cells
  fields : IsSomeAnd (component_of types 1) (λ c. All (λ (f : Field). f.kind ≡ I64) c.fields)

plain_cells : (types : Types) (image : Image) (row : List Cell) → is_plain_row types row ≡ true → ArePlainCells types image (map stored_cell row)
plain_cells types image [] plain = absurd (cc)
plain_cells types image (c ∷ d ∷ cs) plain = absurd (cc)
plain_cells types image (c ∷ []) plain =
    let both = and_both (c.kind == 1) (is_plain_cell (component_of types 1) c.values) plain in
    let kind : c.kind ≡ 1 = grind (arith, nat_tests) in
    let v = plain_values types c.values (component_of types 1) refl both.1 in
    let found : component_of types c.kind ≡ Some v.component = ap (component_of types) kind ∙ v.found in
    record {
      kinds = ap (λ k. k ∷ []) kind;
      fits = (rw found (v.stored_, each_value image v.component.fields (map stored_of c.values) v.whole), tt);
      numbers = (All-from_recursion IsNumber (map stored_of c.values) (each_number v.component.fields (map stored_of c.values) v.whole), tt);
      fields = rw v.found (All-from_recursion (λ (f : Field). f.kind ≡ I64) v.component.fields (each_kind v.component.fields (map stored_of c.values) v.whole));
    }

-- ---- names

extra_of : (k : ℕ) → is_extra k ≡ true → (k ≡ 0) ⊎ ((17 ≤ k) × (k ≤ 1040))
extra_of k is = extra_at (k == 0) refl is where
  extra_at : (b : Bool) → (k == 0) ≡ b → b || (nat_le 17 k && nat_le k 1040) ≡ true → (k ≡ 0) ⊎ ((17 ≤ k) × (k ≤ 1040))
  extra_at true zero is = inl (grind (arith, nat_tests))
  extra_at false other is = let both = and_both (nat_le 17 k) (nat_le k 1040) is in inr (grind (arith, nat_tests), grind (arith, nat_tests))

name_of : (n : Name) → is_baked_name n ≡ true → IsName 1 n
name_of n is =
    let all = and_both ((n.play == 0) && (n.scene == 1)) ((nat_le 1 n.object && nat_le n.object 4294967295) && is_extra n.extra) is in
    let front = and_both (n.play == 0) (n.scene == 1) all.0 in
    let back = and_both (nat_le 1 n.object && nat_le n.object 4294967295) (is_extra n.extra) all.1 in
    let object = and_both (nat_le 1 n.object) (nat_le n.object 4294967295) back.0 in
    record { play = grind (arith, nat_tests); scene = grind (arith, nat_tests); object = (grind (arith, nat_tests), grind (arith, nat_tests)); extra = extra_of n.extra back.1 }

-- ---- the image

record IsPlainRow (types : Types) (image : Image) (row : ImageRow) : Type 0 where
  is_row : IsRow types image row
  cells : ArePlainCells types image row.cells

one_row : (types : Types) (image : Image) (e : Named) → image.place ≡ the_place → is_plain_entity types e ≡ true → IsPlainRow types image (stored_row e)
unfolding IsStrictlySortedBy
one_row types image e place plain =
    let both = and_both (is_baked_name e.0) (is_the_place e.1.place && is_plain_row types e.1.row) plain in
    let row = and_both (is_the_place e.1.place) (is_plain_row types e.1.row) both.1 in
    let cells = plain_cells types image e.1.row row.1 in
    let long : length (map stored_cell e.1.row) ≡ 1 = sym (length-map (map stored_cell e.1.row) (λ (c : StoredCell). c.kind)) ∙ ap length cells.kinds in
    record {
      is_row = record {
        name = subst (λ (p : Place). IsName p.scene e.0) (sym place) (name_of e.0 both.0);
        few = omega (arith, long);
        order = subst (IsStrictlySortedBy nat_cmp) (sym cells.kinds) (tt, tt);
        cells = All-from_recursion (CellFits types image) (map stored_cell e.1.row) cells.fits;
      };
      cells = cells;
    }

each_row : (types : Types) (image : Image) (es : List Named) → image.place ≡ the_place → list_all (is_plain_entity types) es ≡ true → AllByRecursion (IsPlainRow types image) (map stored_row es)
each_row types image [] place plain = tt
each_row types image (e ∷ es) place plain =
    let both = and_both (is_plain_entity types e) (list_all (is_plain_entity types) es) plain in
    (one_row types image e place both.0, each_row types image es place both.1)

all_of : {X : Type 0} (P Q : X → Type 0) (xs : List X) → ((x : X) → P x → Q x) → AllByRecursion P xs → AllByRecursion Q xs
all_of P Q [] f all = tt
all_of P Q (x ∷ xs) f all = (f x all.0, all_of P Q xs f all.1)

no_zero : (v : Stored) → IsNumber v → zero_name v ≡ []
no_zero (stored.Num z) number = refl
no_zero (stored.Link l) number = absurd number

nothing_in : {X Y : Type 0} (f : X → List Y) (xs : List X) → AllByRecursion (λ x. f x ≡ []) xs → flat_map f xs ≡ []
nothing_in f [] all = refl
nothing_in f (x ∷ xs) all = ap (λ ys. ys ++ flat_map f xs) all.0 ∙ nothing_in f xs all.1

cell_zeros : (c : StoredCell) → All IsNumber c.values → flat_map zero_name c.values ≡ []
cell_zeros c numbers = nothing_in zero_name c.values (all_of IsNumber (λ v. zero_name v ≡ []) c.values no_zero (recursion_from_All IsNumber c.values numbers))

row_zeros : (types : Types) (image : Image) (row : ImageRow) → IsPlainRow types image row → flat_map (λ (c : StoredCell). flat_map zero_name c.values) row.cells ≡ []
row_zeros types image row plain = nothing_in (λ (c : StoredCell). flat_map zero_name c.values) row.cells (all_of (λ (c : StoredCell). All IsNumber c.values) (λ (c : StoredCell). flat_map zero_name c.values ≡ []) row.cells cell_zeros plain.cells.numbers)

no_zeros : (types : Types) (image : Image) (rows : List ImageRow) → AllByRecursion (IsPlainRow types image) rows → zero_names rows ≡ []
no_zeros types image rows all = nothing_in (λ (row : ImageRow). flat_map (λ (c : StoredCell). flat_map zero_name c.values) row.cells) rows (all_of (IsPlainRow types image) (λ (row : ImageRow). flat_map (λ (c : StoredCell). flat_map zero_name c.values) row.cells ≡ []) rows (row_zeros types image) all)

names-keys : (es : List Named) → names_of (map stored_row es) ≡ keys_of es
names-keys [] = refl
names-keys (e ∷ es) = ap (λ ns. e.0 ∷ ns) (names-keys es)

-- what the guard says of the entities
record IsGuarded (types : Types) (all : Entities) : Type 0 where
  few : len all ≤ 65536
  rows : AllByRecursion (IsPlainRow types (image_of all)) (image_of all).rows

guarded : (g : Content) (all : Entities) → is_plain g all ≡ true → IsGuarded g.schema all
guarded g all plain =
    let both = and_both (nat_le (len all) 65536 && has_scene_one_alone g) (list_all (is_plain_entity g.schema) (entries all)) plain in
    let front = and_both (nat_le (len all) 65536) (has_scene_one_alone g) both.0 in
    record { few = grind (arith, nat_tests); rows = each_row g.schema (image_of all) (entries all) refl both.1 }

-- the image of plain entities is one that a section file can hold
pub IsSection-image_of : (g : Content) (all : Entities) → is_plain g all ≡ true → IsSection g.schema (image_of all)
unfolding each_once
IsSection-image_of g all plain =
    let is = guarded g all plain in
    let count : length (image_of all).rows ≤ 65536 = let long : length (image_of all).rows ≡ length (entries all) = length-map (entries all) stored_row in omega (arith, long, len-entries all, is.few) in
    let externals : externals_of (image_of all).rows ≡ [] = ap (each_once name_cmp) (no_zeros g.schema (image_of all) (image_of all).rows is.rows) in
    record {
      valid = record {
        scene = (omega arith, omega arith);
        section = omega arith;
        count = count;
        order = subst (IsStrictlySortedBy name_cmp) (sym (names-keys (entries all))) (keys_ascend all);
        rows = All-from_recursion (IsRow g.schema (image_of all)) (image_of all).rows (all_of (IsPlainRow g.schema (image_of all)) (IsRow g.schema (image_of all)) (image_of all).rows (λ row r. r.is_row) is.rows);
        externals = rw externals (omega arith);
      };
      numbers = All-from_recursion (λ (row : ImageRow). All (λ (c : StoredCell). All IsNumber c.values) row.cells) (image_of all).rows
          (all_of (IsPlainRow g.schema (image_of all)) (λ (row : ImageRow). All (λ (c : StoredCell). All IsNumber c.values) row.cells) (image_of all).rows (λ row r. All-from_recursion (λ (c : StoredCell). All IsNumber c.values) row.cells r.cells.numbers) is.rows);
      place = refl;
      count = count;
    }

fields_of_one : (types : Types) (image : Image) (rows : List ImageRow) → AllByRecursion (IsPlainRow types image) rows → 0 < length rows → IsSomeAnd (component_of types 1) (λ c. All (λ (f : Field). f.kind ≡ I64) c.fields)
fields_of_one types image [] all some_ = absurd (omega arith)
fields_of_one types image (row ∷ rows) all some_ = all.0.cells.fields

-- and its rows have whole numbers alone
pub IsPlain-image_of : (g : Content) (all : Entities) → is_plain g all ≡ true → IsPlain g.schema (image_of all)
IsPlain-image_of g all plain =
    let is = guarded g all plain in
    record {
      fields = fields_of_one g.schema (image_of all) (image_of all).rows is.rows;
      rows = All-from_recursion (λ (row : ImageRow). types_of row ≡ 1 ∷ []) (image_of all).rows (all_of (IsPlainRow g.schema (image_of all)) (λ (row : ImageRow). types_of row ≡ 1 ∷ []) (image_of all).rows (λ row r. r.cells.kinds) is.rows);
    }
