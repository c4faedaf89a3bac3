-- The members that a project's document has: its fields and its components, in the order of their names.
use Rattle.std.proofs.Common.{◌≡◌, ℕ, ℤ, pos, negsuc, ◌<◌, List, [], ◌∷◌, map, true, Some, None, Ordering, Less, Equal, Greater, nat_cmp, if◌then◌else◌, refl, sym, ap, ◌∙◌, true≢false, arith}
use Rattle.std.specs.Prelude.{option_map}
use Rattle.std.specs.List.{AllByRecursion}
use Rattle.std.specs.Ordering.{match_ordering}
use Rattle.std.specs.BTreeMap.{insert_entry}
use Rattle.std.specs.Cmp.Lexicographic.{slice_cmp}
use Rattle.std.proofs.lemmas.Bool.Decides.{nat_tests}
use Rattle.serde_json.specs.Data.{Data, null, number, string, object, Members, no_members, member, put}
use Rattle.serde_json.specs.Find.{as_i64, of_integer}
use Rattle.eb_base.specs.Arithmetic.{fits_i64}
use Rattle.eb_base.specs.FixedPoint.{fixed_text}
use Rattle.eb_base.proofs.FixedPrints.{fixed_of-fixed_text}
use Rattle.eb_schema.specs.declared.kinds.Kind.{Kind}
use Rattle.eb_schema.specs.declared.kinds.Kind.TheVariants.{I8, I16, I32, I64, Fix, Ref, Asset}
use Rattle.eb_schema.specs.declared.kinds.Field.{Field}
use Rattle.eb_schema.specs.declared.kinds.Authoring.{Authoring}
use Rattle.eb_schema.specs.Schemas.{Types, authoring_of}
use Rattle.eb_scene.specs.declared.objects.Given.{Given}
use Rattle.eb_scene.specs.declared.objects.Given.TheVariants as given
use Rattle.eb_scene.specs.declared.objects.Part.{Part}
use Rattle.eb_scene.specs.declared.edits.Raw.{Raw}
use Rattle.eb_scene.specs.declared.edits.Raw.TheVariants as raw
use Rattle.eb_scene.specs.declared.edits.RawField.{RawField}
use Rattle.eb_scene.specs.Fits.{lies}
use Rattle.eb_scene.specs.Validity.{suits, Suit, IsPart}
use Rattle.eb_scene.specs.Rebuilding.{written_as, named_values, raw_field, with_names, by_key, written_fields, named_part, written_parts}
use Rattle.eb_scene_text.specs.Values.{raw_of}
use Rattle.eb_scene_text.specs.ProjectText.{value_data, with_fields, fields_data, with_part_as, with_parts}

-- ---- one value

-- a value as the document writes it
abbrev pub raw_data : Raw → Data
raw_data (raw.Int z) = number (of_integer z)
raw_data (raw.Units z) = string (fixed_text z)
raw_data raw.Null = null

-- a value that is written so that it is read
abbrev pub Reads : Raw → Type 0
Reads r = raw_of (raw_data r) ≡ Some r

value_written : (kind : Kind) (v : Given) → value_data kind v ≡ raw_data (written_as kind v)
value_written I8 (given.Num z) = refl
value_written I16 (given.Num z) = refl
value_written I32 (given.Num z) = refl
value_written I64 (given.Num z) = refl
value_written Fix (given.Num z) = refl
value_written Ref (given.Num z) = refl
value_written Asset (given.Num z) = refl
value_written I8 (given.Object n) = refl
value_written I16 (given.Object n) = refl
value_written I32 (given.Object n) = refl
value_written I64 (given.Object n) = refl
value_written Fix (given.Object n) = refl
value_written Ref (given.Object n) = refl
value_written Asset (given.Object n) = refl
value_written I8 (given.Asset n) = refl
value_written I16 (given.Asset n) = refl
value_written I32 (given.Asset n) = refl
value_written I64 (given.Asset n) = refl
value_written Fix (given.Asset n) = refl
value_written Ref (given.Asset n) = refl
value_written Asset (given.Asset n) = refl
value_written I8 given.Null = refl
value_written I16 given.Null = refl
value_written I32 given.Null = refl
value_written I64 given.Null = refl
value_written Fix given.Null = refl
value_written Ref given.Null = refl
value_written Asset given.Null = refl

integer_back : (z : ℤ) → fits_i64 z ≡ true → as_i64 (of_integer z) ≡ Some z
integer_back (pos n) h = ap (λ b. if b then Some (pos n) else None) h
integer_back (negsuc n) h = refl

integer_reads : (z : ℤ) → fits_i64 z ≡ true → Reads (raw.Int z)
integer_reads z h = ap (option_map raw.Int) (integer_back z h)

units_read : (z : ℤ) → fits_i64 z ≡ true → Reads (raw.Units z)
units_read z h = ap (option_map raw.Units) (fixed_of-fixed_text z h)

-- what lies in a shorter range lies in i64
shorter : (least most : ℕ) (z : ℤ) → least < 2147483648 → most < 4294967296 → lies (negsuc least) (pos most) z ≡ true → fits_i64 z ≡ true
shorter least most (pos n) low high h = grind (arith, nat_tests)
shorter least most (negsuc n) low high h = grind (arith, nat_tests)

number_fits : (n : ℕ) → lies (pos 1) (pos 4294967295) (pos n) ≡ true → fits_i64 (pos n) ≡ true
number_fits n h = grind (arith, nat_tests)

value_reads : (kind : Kind) (v : Given) → suits kind v ≡ true → Reads (written_as kind v)
value_reads I8 (given.Num z) h = integer_reads z (shorter 127 127 z (omega arith) (omega arith) h)
value_reads I16 (given.Num z) h = integer_reads z (shorter 32767 32767 z (omega arith) (omega arith) h)
value_reads I32 (given.Num z) h = integer_reads z (shorter 2147483647 2147483647 z (omega arith) (omega arith) h)
value_reads I64 (given.Num z) h = integer_reads z h
value_reads Fix (given.Num z) h = units_read z h
value_reads Ref (given.Object n) h = integer_reads (pos n) (number_fits n h)
value_reads Ref given.Null h = refl
value_reads Asset (given.Asset n) h = integer_reads (pos n) (number_fits n h)
value_reads Asset given.Null h = refl
value_reads kind value h = absurd (true≢false (sym h))

-- ---- members in the order of their keys

module _ {X : Type 0} (f : X → Data) where
  -- a member for each thing under its name
  abbrev pub as_members : List (List ℕ × X) → Members
  as_members [] = no_members
  as_members (e ∷ es) = member e.0 (f e.1) (as_members es)

  put_where : (c : Ordering) (k : List ℕ) (x : X) (e : List ℕ × X) (es : List (List ℕ × X)) → put k (f x) (as_members es) ≡ as_members (insert_entry (slice_cmp nat_cmp) es k x)
      → match_ordering c (member k (f x) (member e.0 (f e.1) (as_members es))) (member e.0 (f x) (as_members es)) (member e.0 (f e.1) (put k (f x) (as_members es)))
      ≡ as_members (match_ordering c ((k, x) ∷ e ∷ es) ((e.0, x) ∷ es) (e ∷ insert_entry (slice_cmp nat_cmp) es k x))
  put_where Less k x e es later = refl
  put_where Equal k x e es later = refl
  put_where Greater k x e es later = ap (member e.0 (f e.1)) later

  pub put_entry : (k : List ℕ) (x : X) (es : List (List ℕ × X)) → put k (f x) (as_members es) ≡ as_members (insert_entry (slice_cmp nat_cmp) es k x)
  put_entry k x [] = refl
  put_entry k x (e ∷ es) = put_where (slice_cmp nat_cmp k e.0) k x e es (put_entry k x es)

-- what holds of all things that are put in holds of all
module _ {X : Type 0} (P : X → Type 0) where
  abbrev pub AllThings : List (List ℕ × X) → Type 0
  AllThings es = AllByRecursion (λ e. P e.1) es

  all_put_where : (c : Ordering) (k : List ℕ) (x : X) (e : List ℕ × X) (es : List (List ℕ × X)) → P x → P e.1 → AllThings es → AllThings (insert_entry (slice_cmp nat_cmp) es k x)
      → AllThings (match_ordering c ((k, x) ∷ e ∷ es) ((e.0, x) ∷ es) (e ∷ insert_entry (slice_cmp nat_cmp) es k x))
  all_put_where Less k x e es here top rest later = (here, (top, rest))
  all_put_where Equal k x e es here top rest later = (here, rest)
  all_put_where Greater k x e es here top rest later = (top, later)

  all_put : (k : List ℕ) (x : X) (es : List (List ℕ × X)) → P x → AllThings es → AllThings (insert_entry (slice_cmp nat_cmp) es k x)
  all_put k x [] here all = (here, tt)
  all_put k x (e ∷ es) here all = all_put_where (slice_cmp nat_cmp k e.0) k x e es here all.0 all.1 (all_put k x es here all.1)

  pub all_names : (es ys : List (List ℕ × X)) → AllThings es → AllThings ys → AllThings (with_names es ys)
  all_names es [] all more = all
  all_names es (y ∷ ys) all more = all_names (insert_entry (slice_cmp nat_cmp) es y.0 y.1) ys (all_put y.0 y.1 es more.0 all) more.1

-- ---- the values of fields

fields_entries : (es : List (List ℕ × Raw)) (fields : List Field) (values : List Given) → with_fields (as_members raw_data es) fields values ≡ as_members raw_data (with_names es (named_values fields values))
fields_entries es [] values = refl
fields_entries es (f ∷ fs) [] = refl
fields_entries es (f ∷ fs) (v ∷ vs) =
    ap (λ d. with_fields (put f.name d (as_members raw_data es)) fs vs) (value_written f.kind v)
    ∙ ap (λ ms. with_fields ms fs vs) (put_entry raw_data f.name (written_as f.kind v) es)
    ∙ fields_entries (insert_entry (slice_cmp nat_cmp) es f.name (written_as f.kind v)) fs vs

-- a member for each value under its name
abbrev pub raw_members : List RawField → Members
raw_members [] = no_members
raw_members (r ∷ rs) = member r.name (raw_data r.value) (raw_members rs)

named_members : (es : List (List ℕ × Raw)) → as_members raw_data es ≡ raw_members (map raw_field es)
named_members [] = refl
named_members (e ∷ es) = ap (member e.0 (raw_data e.1)) (named_members es)

pub fields_written : (fields : List Field) (values : List Given) → fields_data fields values ≡ object (raw_members (written_fields fields values))
fields_written fields values = ap object (fields_entries [] fields values ∙ named_members (by_key (named_values fields values)))

-- values that are all written so that they are read
abbrev pub AllRead : List RawField → Type 0
AllRead rs = AllByRecursion (λ r. Reads r.value) rs

named_read : (fields : List Field) (values : List Given) → Suit fields values → AllThings Reads (named_values fields values)
named_read [] vs suit = tt
named_read (f ∷ fs) [] suit = tt
named_read (f ∷ fs) (v ∷ vs) suit = (value_reads f.kind v suit.0, named_read fs vs suit.1)

entries_read : (es : List (List ℕ × Raw)) → AllThings Reads es → AllRead (map raw_field es)
entries_read [] all = tt
entries_read (e ∷ es) all = (all.0, entries_read es all.1)

pub fields_read : (fields : List Field) (values : List Given) → Suit fields values → AllRead (written_fields fields values)
fields_read fields values suit = entries_read (by_key (named_values fields values)) (all_names Reads [] (named_values fields values) tt (named_read fields values suit))

-- ---- components

abbrev pub part_data : List RawField → Data
part_data rs = object (raw_members rs)

part_named : (types : Types) (p : Part) (ms : Members) (a : Authoring) → authoring_of types p.kind ≡ Some a
    → with_part_as ms p.values (authoring_of types p.kind) ≡ put (named_part types p).0 (part_data (named_part types p).1) ms
part_named types p ms a found = rw found (ap (λ d. put a.name d ms) (fields_written a.fields p.values))

parts_entries : (types : Types) (es : List (List ℕ × List RawField)) (parts : List Part) → AllByRecursion (IsPart types) parts
    → with_parts types (as_members part_data es) parts ≡ as_members part_data (with_names es (map (named_part types) parts))
parts_entries types es [] all = refl
parts_entries types es (p ∷ ps) all =
    let n = named_part types p in
    ap (λ ms. with_parts types ms ps) (part_named types p (as_members part_data es) all.0.authoring all.0.found ∙ put_entry part_data n.0 n.1 es)
    ∙ parts_entries types (insert_entry (slice_cmp nat_cmp) es n.0 n.1) ps all.1

pub parts_written : (types : Types) (parts : List Part) → AllByRecursion (IsPart types) parts → with_parts types no_members parts ≡ as_members part_data (written_parts types parts)
parts_written types parts all = parts_entries types [] parts all

part_reads : (types : Types) (p : Part) → IsPart types p → AllRead (named_part types p).1
part_reads types p is = rw is.found (fields_read is.authoring.fields p.values is.values)

named_parts_read : (types : Types) (parts : List Part) → AllByRecursion (IsPart types) parts → AllThings AllRead (map (named_part types) parts)
named_parts_read types [] all = tt
named_parts_read types (p ∷ ps) all = (part_reads types p all.0, named_parts_read types ps all.1)

pub parts_read : (types : Types) (parts : List Part) → AllByRecursion (IsPart types) parts → AllThings AllRead (written_parts types parts)
parts_read types parts all = all_names AllRead [] (map (named_part types) parts) tt (named_parts_read types parts all)
