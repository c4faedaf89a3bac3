-- The document of a project has no floats, so its text is known.
use Rattle.std.proofs.Common.{◌≡◌, ℕ, ℤ, pos, negsuc, ◌||◌, Bool, true, false, List, [], ◌∷◌, flat_map, codes, Option, Some, None, Ordering, Less, Equal, Greater, nat_cmp, refl}
use Rattle.std.specs.List.{AllByRecursion}
use Rattle.std.specs.Map.{keys_of}
use Rattle.std.specs.Ordering.{match_ordering}
use Rattle.std.specs.Cmp.Lexicographic.{slice_cmp}
use Rattle.serde_json.specs.Data.{Data, number, object, unsigned, Members, no_members, member, put}
use Rattle.serde_json.specs.Find.{is_float, of_integer}
use Rattle.serde_json.specs.View.{items_of}
use Rattle.serde_json.specs.Written.{has_float, items_have_float, members_have_float}
use Rattle.eb_schema.specs.declared.kinds.Kind.{Kind}
use Rattle.eb_schema.specs.declared.kinds.Kind.TheVariants.{I8, I16, I32, I64, Fix, Ref, Asset}
use Rattle.eb_schema.specs.declared.kinds.Field.{Field}
use Rattle.eb_schema.specs.declared.kinds.Authoring.{Authoring}
use Rattle.eb_schema.specs.Schemas.{Types, authoring_of}
use Rattle.eb_scene.specs.declared.objects.Given.{Given}
use Rattle.eb_scene.specs.declared.objects.Given.TheVariants as given
use Rattle.eb_scene.specs.declared.objects.Part.{Part}
use Rattle.eb_scene.specs.declared.objects.Object.{Object}
use Rattle.eb_scene.specs.Projects.{Content, Objects, numbered}
use Rattle.eb_scene_text.specs.ProjectText.{number_data, value_data, with_fields, fields_data, with_part_as, with_parts, number_or_null, object_data, if_there, object_found, objects_data, scene_data, scene_found, asset_data, asset_found, assets_data, scene_numbers, scenes_data, document}
use Rattle.eb_scene_text.proofs.DraftFacts.{all_append}

neither : (a b : Bool) → a ≡ false → b ≡ false → (a || b) ≡ false
neither false b p q = q
neither true b p q = p

left_not : (a b : Bool) → (a || b) ≡ false → a ≡ false
left_not false b p = refl
left_not true b p = p

right_not : (a b : Bool) → (a || b) ≡ false → b ≡ false
right_not false b p = p
right_not true false p = refl
right_not true true p = p

abbrev IsPlain : Data → Type 0
IsPlain d = has_float d ≡ false

-- ---- members

put_at : (o : Ordering) (k l : List ℕ) (d e : Data) (ms rest : Members) → IsPlain d → members_have_float (member l e ms) ≡ false → members_have_float rest ≡ false
    → members_have_float (match_ordering o (member k d (member l e ms)) (member l d ms) (member l e rest)) ≡ false
put_at Less k l d e ms rest plain all more = neither (has_float d) _ plain all
put_at Equal k l d e ms rest plain all more = neither (has_float d) _ plain (right_not (has_float e) (members_have_float ms) all)
put_at Greater k l d e ms rest plain all more = neither (has_float e) _ (left_not (has_float e) (members_have_float ms) all) more

put_plain : (k : List ℕ) (d : Data) (ms : Members) → IsPlain d → members_have_float ms ≡ false → members_have_float (put k d ms) ≡ false
put_plain k d no_members plain all = neither (has_float d) false plain refl
put_plain k d (member l e ms) plain all = put_at (slice_cmp nat_cmp k l) k l d e ms (put k d ms) plain all (put_plain k d ms plain (right_not (has_float e) (members_have_float ms) all))

-- ---- values

integer_plain : (z : ℤ) → is_float (of_integer z) ≡ false
integer_plain (pos n) = refl
integer_plain (negsuc n) = refl

number_plain : (kind : Kind) (z : ℤ) → IsPlain (number_data kind z)
number_plain Fix z = refl
number_plain I8 z = integer_plain z
number_plain I16 z = integer_plain z
number_plain I32 z = integer_plain z
number_plain I64 z = integer_plain z
number_plain Ref z = integer_plain z
number_plain Asset z = integer_plain z

value_plain : (kind : Kind) (value : Given) → IsPlain (value_data kind value)
value_plain kind (given.Num z) = number_plain kind z
value_plain kind (given.Object n) = refl
value_plain kind (given.Asset n) = refl
value_plain kind given.Null = refl

null_plain : (n : Option ℕ) → IsPlain (number_or_null n)
null_plain None = refl
null_plain (Some n) = refl

fields_plain : (ms : Members) (fields : List Field) (values : List Given) → members_have_float ms ≡ false → members_have_float (with_fields ms fields values) ≡ false
fields_plain ms [] values all = all
fields_plain ms (f ∷ fs) [] all = all
fields_plain ms (f ∷ fs) (v ∷ vs) all = fields_plain (put f.name (value_data f.kind v) ms) fs vs (put_plain f.name (value_data f.kind v) ms (value_plain f.kind v) all)

part_plain : (ms : Members) (values : List Given) (a : Option Authoring) → members_have_float ms ≡ false → members_have_float (with_part_as ms values a) ≡ false
part_plain ms values None all = all
part_plain ms values (Some a) all = put_plain a.name (fields_data a.fields values) ms (fields_plain no_members a.fields values refl) all

parts_plain : (types : Types) (ms : Members) (parts : List Part) → members_have_float ms ≡ false → members_have_float (with_parts types ms parts) ≡ false
parts_plain types ms [] all = all
parts_plain types ms (p ∷ ps) all = parts_plain types (with_part_as ms p.values (authoring_of types p.kind)) ps (part_plain ms p.values (authoring_of types p.kind) all)

-- ---- lists

items_plain : (ds : List Data) → AllByRecursion IsPlain ds → items_have_float (items_of ds) ≡ false
items_plain [] all = refl
items_plain (d ∷ ds) all = neither (has_float d) _ all.0 (items_plain ds all.1)

module _ (P : Data → Type 0) where
  pub flat_all : (f : ℕ → List Data) → ((n : ℕ) → AllByRecursion P (f n)) → (ns : List ℕ) → AllByRecursion P (flat_map f ns)
  flat_all f each [] = tt
  flat_all f each (n ∷ ns) = all_append P (f n) (flat_map f ns) (each n) (flat_all f each ns)

  pub there_all : {X : Type 0} (f : X → Data) → ((x : X) → P (f x)) → (found : Option X) → AllByRecursion P (if_there f found)
  there_all f each None = tt
  there_all f each (Some x) = (each x, tt)

list_plain : (f : ℕ → List Data) → ((n : ℕ) → AllByRecursion IsPlain (f n)) → (ns : List ℕ) → items_have_float (items_of (flat_map f ns)) ≡ false
list_plain f each ns = items_plain (flat_map f ns) (flat_all IsPlain f each ns)

-- ---- the whole

object_plain : (types : Types) (n : ℕ) (o : Object) → IsPlain (object_data types n o)
unfolding object_data
object_plain types n o =
    let parts = object (with_parts types no_members o.components) in
    let one = put (codes "components") parts no_members in
    let two = put (codes "number") (number (unsigned n)) one in
    let three = put (codes "parent") (number_or_null o.parent) two in
    put_plain (codes "section") (number_or_null o.mark) three (null_plain o.mark)
    (put_plain (codes "parent") (number_or_null o.parent) two (null_plain o.parent)
    (put_plain (codes "number") (number (unsigned n)) one refl (put_plain (codes "components") parts no_members (parts_plain types no_members o.components refl) refl)))

object_found_plain : (types : Types) (es : Objects) (n : ℕ) → AllByRecursion IsPlain (object_found types es n)
unfolding object_found
object_found_plain types es n = there_all IsPlain (object_data types n) (object_plain types n) (numbered es n)

scene_plain : (types : Types) (s : ℕ) (es : Objects) → IsPlain (scene_data types s es)
unfolding scene_data
scene_plain types s es =
    let one = put (codes "number") (number (unsigned s)) no_members in
    put_plain (codes "objects") (objects_data types es) one (list_plain (object_found types es) (object_found_plain types es) (keys_of es))
    (put_plain (codes "number") (number (unsigned s)) no_members refl refl)

scene_found_plain : (g : Content) (s : ℕ) → AllByRecursion IsPlain (scene_found g s)
unfolding scene_found
scene_found_plain g s = there_all IsPlain (scene_data g.schema s) (scene_plain g.schema s) (numbered g.scenes s)

asset_plain : (types : Types) (n : ℕ) (values : List Given) → IsPlain (asset_data types n values)
unfolding asset_data
asset_plain types n values =
    let fields = fields_data types.assets values in
    let one = put (codes "fields") fields no_members in
    put_plain (codes "number") (number (unsigned n)) one refl (put_plain (codes "fields") fields no_members (fields_plain no_members types.assets values refl) refl)

asset_found_plain : (g : Content) (n : ℕ) → AllByRecursion IsPlain (asset_found g n)
unfolding asset_found
asset_found_plain g n = there_all IsPlain (asset_data g.schema n) (asset_plain g.schema n) (numbered g.assets n)

pub document_plain : (g : Content) → has_float (document g) ≡ false
unfolding document
document_plain g =
    let one = put (codes "assets") (assets_data g) no_members in
    put_plain (codes "scenes") (scenes_data g) one (list_plain (scene_found g) (scene_found_plain g) scene_numbers)
    (put_plain (codes "assets") (assets_data g) no_members (list_plain (asset_found g) (asset_found_plain g) (keys_of g.assets)) refl)
