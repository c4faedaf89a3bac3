-- The lists and objects of a project's document stand inside each other no deeper than a text may be read.
use Rattle.std.proofs.Common.{ℕ, ℤ, suc, ◌≤◌, List, [], ◌∷◌, flat_map, codes, Option, Some, None, Ordering, Less, Equal, Greater, nat_cmp, arith}
use Rattle.std.specs.List.{AllByRecursion}
use Rattle.std.specs.Map.{keys_of}
use Rattle.std.specs.Ordering.{match_ordering}
use Rattle.std.specs.Cmp.Lexicographic.{slice_cmp}
use Rattle.serde_json.specs.Data.{Data, number, object, unsigned, Members, no_members, member, put, depth, items_depth, members_depth}
use Rattle.serde_json.specs.View.{items_of}
use Rattle.serde_json.specs.Read.{max_depth}
use Rattle.eb_schema.specs.declared.kinds.Kind.{Kind}
use Rattle.eb_schema.specs.declared.kinds.Kind.TheVariants.{I8, I16, I32, I64, Fix, Ref, Asset}
use Rattle.eb_schema.specs.declared.kinds.Field.{Field}
use Rattle.eb_schema.specs.declared.kinds.Authoring.{Authoring}
use Rattle.eb_schema.specs.Schemas.{Types, authoring_of}
use Rattle.eb_scene.specs.declared.objects.Given.{Given}
use Rattle.eb_scene.specs.declared.objects.Given.TheVariants as given
use Rattle.eb_scene.specs.declared.objects.Part.{Part}
use Rattle.eb_scene.specs.declared.objects.Object.{Object}
use Rattle.eb_scene.specs.Projects.{Content, Objects, numbered}
use Rattle.eb_scene_text.specs.ProjectText.{number_data, value_data, with_fields, fields_data, with_part_as, with_parts, number_or_null, object_data, object_found, objects_data, scene_data, scene_found, asset_data, asset_found, assets_data, scene_numbers, scenes_data, document}
use Rattle.eb_scene_text.proofs.PlainFacts.{flat_all, there_all}

-- ---- members

put_at : (m : ℕ) (o : Ordering) (k l : List ℕ) (d e : Data) (ms rest : Members) → depth d ≤ m → members_depth (member l e ms) ≤ m → members_depth rest ≤ m
    → members_depth (match_ordering o (member k d (member l e ms)) (member l d ms) (member l e rest)) ≤ m
put_at m Less k l d e ms rest here all more = omega (arith, here, all)
put_at m Equal k l d e ms rest here all more = omega (arith, here, all)
put_at m Greater k l d e ms rest here all more = omega (arith, all, more)

put_within : (m : ℕ) (k : List ℕ) (d : Data) (ms : Members) → depth d ≤ m → members_depth ms ≤ m → members_depth (put k d ms) ≤ m
put_within m k d no_members here all = omega (arith, here)
put_within m k d (member l e ms) here all =
    let rest : members_depth ms ≤ m = omega (arith, all) in
    put_at m (slice_cmp nat_cmp k l) k l d e ms (put k d ms) here all (put_within m k d ms here rest)

-- ---- values

number_flat : (kind : Kind) (z : ℤ) → depth (number_data kind z) ≤ 0
number_flat I8 z = omega arith
number_flat I16 z = omega arith
number_flat I32 z = omega arith
number_flat I64 z = omega arith
number_flat Fix z = omega arith
number_flat Ref z = omega arith
number_flat Asset z = omega arith

value_flat : (kind : Kind) (value : Given) → depth (value_data kind value) ≤ 0
value_flat kind (given.Num z) = number_flat kind z
value_flat kind (given.Object n) = omega arith
value_flat kind (given.Asset n) = omega arith
value_flat kind given.Null = omega arith

null_within : (m : ℕ) (n : Option ℕ) → depth (number_or_null n) ≤ m
null_within m None = omega arith
null_within m (Some n) = omega arith

number_within : (m n : ℕ) → depth (number (unsigned n)) ≤ m
number_within m n = omega arith

fields_within : (ms : Members) (fields : List Field) (values : List Given) → members_depth ms ≤ 0 → members_depth (with_fields ms fields values) ≤ 0
fields_within ms [] values all = all
fields_within ms (f ∷ fs) [] all = all
fields_within ms (f ∷ fs) (v ∷ vs) all = fields_within (put f.name (value_data f.kind v) ms) fs vs (put_within 0 f.name (value_data f.kind v) ms (value_flat f.kind v) all)

fields_depth : (m : ℕ) (fields : List Field) (values : List Given) → 1 ≤ m → depth (fields_data fields values) ≤ m
fields_depth m fields values least = let flat = fields_within no_members fields values (omega arith) in omega (arith, flat, least)

part_within : (ms : Members) (values : List Given) (a : Option Authoring) → members_depth ms ≤ 1 → members_depth (with_part_as ms values a) ≤ 1
part_within ms values None all = all
part_within ms values (Some a) all = put_within 1 a.name (fields_data a.fields values) ms (fields_depth 1 a.fields values (omega arith)) all

parts_within : (types : Types) (ms : Members) (parts : List Part) → members_depth ms ≤ 1 → members_depth (with_parts types ms parts) ≤ 1
parts_within types ms [] all = all
parts_within types ms (p ∷ ps) all = parts_within types (with_part_as ms p.values (authoring_of types p.kind)) ps (part_within ms p.values (authoring_of types p.kind) all)

-- ---- lists

items_within : (m : ℕ) (ds : List Data) → AllByRecursion (λ d. depth d ≤ m) ds → items_depth (items_of ds) ≤ m
items_within m [] all = omega arith
items_within m (d ∷ ds) all = let here = all.0 in let rest = items_within m ds all.1 in omega (arith, here, rest)

list_within : (m : ℕ) (f : ℕ → List Data) → ((n : ℕ) → AllByRecursion (λ d. depth d ≤ m) (f n)) → (ns : List ℕ) → items_depth (items_of (flat_map f ns)) ≤ m
list_within m f each ns = items_within m (flat_map f ns) (flat_all (λ d. depth d ≤ m) f each ns)

-- an object of members that are no deeper
object_within : (m : ℕ) (ms : Members) → members_depth ms ≤ m → depth (object ms) ≤ suc m
object_within m ms all = omega (arith, all)

-- ---- the whole

object_shallow : (types : Types) (n : ℕ) (o : Object) → depth (object_data types n o) ≤ 3
unfolding object_data
object_shallow types n o =
    let parts = object (with_parts types no_members o.components) in
    let one = put (codes "components") parts no_members in
    let two = put (codes "number") (number (unsigned n)) one in
    let three = put (codes "parent") (number_or_null o.parent) two in
    object_within 2 (put (codes "section") (number_or_null o.mark) three)
    (put_within 2 (codes "section") (number_or_null o.mark) three (null_within 2 o.mark)
    (put_within 2 (codes "parent") (number_or_null o.parent) two (null_within 2 o.parent)
    (put_within 2 (codes "number") (number (unsigned n)) one (number_within 2 n)
    (put_within 2 (codes "components") parts no_members (object_within 1 (with_parts types no_members o.components) (parts_within types no_members o.components (omega arith))) (omega arith)))))

object_found_shallow : (types : Types) (es : Objects) (n : ℕ) → AllByRecursion (λ d. depth d ≤ 3) (object_found types es n)
unfolding object_found
object_found_shallow types es n = there_all (λ d. depth d ≤ 3) (object_data types n) (object_shallow types n) (numbered es n)

scene_shallow : (types : Types) (s : ℕ) (es : Objects) → depth (scene_data types s es) ≤ 5
unfolding scene_data
scene_shallow types s es =
    let one = put (codes "number") (number (unsigned s)) no_members in
    let list = list_within 3 (object_found types es) (object_found_shallow types es) (keys_of es) in
    object_within 4 (put (codes "objects") (objects_data types es) one)
    (put_within 4 (codes "objects") (objects_data types es) one (omega (arith, list)) (put_within 4 (codes "number") (number (unsigned s)) no_members (number_within 4 s) (omega arith)))

scene_found_shallow : (g : Content) (s : ℕ) → AllByRecursion (λ d. depth d ≤ 5) (scene_found g s)
unfolding scene_found
scene_found_shallow g s = there_all (λ d. depth d ≤ 5) (scene_data g.schema s) (scene_shallow g.schema s) (numbered g.scenes s)

asset_shallow : (types : Types) (n : ℕ) (values : List Given) → depth (asset_data types n values) ≤ 5
unfolding asset_data
asset_shallow types n values =
    let fields = fields_data types.assets values in
    let one = put (codes "fields") fields no_members in
    object_within 4 (put (codes "number") (number (unsigned n)) one)
    (put_within 4 (codes "number") (number (unsigned n)) one (number_within 4 n) (put_within 4 (codes "fields") fields no_members (fields_depth 4 types.assets values (omega arith)) (omega arith)))

asset_found_shallow : (g : Content) (n : ℕ) → AllByRecursion (λ d. depth d ≤ 5) (asset_found g n)
unfolding asset_found
asset_found_shallow g n = there_all (λ d. depth d ≤ 5) (asset_data g.schema n) (asset_shallow g.schema n) (numbered g.assets n)

pub document_shallow : (g : Content) → depth (document g) ≤ max_depth
unfolding document
document_shallow g =
    let one = put (codes "assets") (assets_data g) no_members in
    let scenes = list_within 5 (scene_found g) (scene_found_shallow g) scene_numbers in
    let assets = list_within 5 (asset_found g) (asset_found_shallow g) (keys_of g.assets) in
    let shallow = object_within 6 (put (codes "scenes") (scenes_data g) one) (put_within 6 (codes "scenes") (scenes_data g) one (omega (arith, scenes)) (put_within 6 (codes "assets") (assets_data g) no_members (omega (arith, assets)) (omega arith))) in
    omega (arith, shallow)
