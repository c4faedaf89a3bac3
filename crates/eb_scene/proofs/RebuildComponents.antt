-- The components of the objects of a scene are put again.
use Rattle.std.proofs.Common.{◌≡◌, ℕ, ◌+◌, ◌<◌, ◌≤◌, List, [], ◌∷◌, ◌++◌, length, map, Bool, true, false, cond, not, ◌&&◌, nat_eq, nat_le, is_some, Option, Some, Result, Ok, Err, refl, sym, ap, subst, ◌∙◌, append_assoc, arith, if◌then◌else◌}
use Rattle.std.specs.Prelude.{option_and_then, option_map, find, bytes_eq}
use Rattle.std.specs.Option.{unwrap_or}
use Rattle.std.specs.Map.{keys_of}
use Rattle.std.specs.List.{AllByRecursion, IsDistinct}
use Rattle.std.specs.List.Sorted.{IsStrictlySortedBy}
use Rattle.std.specs.Ordering.{nat_cmp}
use Rattle.std.proofs.lemmas.Bool.Decides.{nat_tests}
use Rattle.eb_schema.specs.declared.kinds.Authoring.{Authoring}
use Rattle.eb_schema.specs.declared.drafts.Holder.TheVariants.{OfAuthoring}
use Rattle.eb_schema.specs.Schemas.{Types, authoring_of, authoring_named}
use Rattle.eb_schema.specs.SoundSchemas.{AreFields, IsSchema}
use Rattle.eb_schema.specs.Rows.{with_item}
use Rattle.eb_schema.proofs.FoundTypes.{authoring_names_found}
use Rattle.eb_scene.specs.declared.objects.Object.{Object}
use Rattle.eb_scene.specs.declared.objects.Part.{Part}
use Rattle.eb_scene.specs.declared.objects.Given.{Given}
use Rattle.eb_scene.specs.declared.edits.Edit.{Edit}
use Rattle.eb_scene.specs.declared.edits.Edit.TheVariants as edit
use Rattle.eb_scene.specs.declared.edits.RawField.{RawField}
use Rattle.eb_scene.specs.declared.edits.EditFault.{EditFault}
use Rattle.eb_scene.specs.declared.edits.EditFault.TheVariants as fault
use Rattle.eb_scene.specs.Fits.{fitted}
use Rattle.eb_scene.specs.Projects.{Content, Numbered, Objects, numbered, part_of}
use Rattle.eb_scene.specs.Tables.{changed}
use Rattle.eb_scene.specs.Edits.{most_parts, type_named, with_part, on_type, on_object, and_so, is_full, component_put}
use Rattle.eb_scene.specs.Validity.{Suit, IsPart, IsObject}
use Rattle.eb_scene.specs.Rebuilding.{written_fields, type_name, type_fields, named_part, part_edits, component_edits}
use Rattle.eb_scene.proofs.ValidComponents.{found_passes, count_with}
use Rattle.eb_scene.proofs.RebuildSteps.{Steps, steps_then, steps_to, IsPast, past_front, found_past, change_past}
use Rattle.eb_scene.proofs.RebuildValues.{written_back}
use Rattle.eb_scene.proofs.RebuildParts.{in_order, by_key_order, all_order, count_order, put_all, put_in_order}
use Rattle.eb_scene.proofs.RebuildObjects.{hung, at, on_last}

-- ---- what the schema says of the type of a component

found_has_where : {X : Type 0} (b : Bool) (P : X → Type 0) (y x : X) (r : Option X) → P y → (r ≡ Some x → P x) → cond b (Some y) r ≡ Some x → P x
found_has_where true P y x r here later h = let same : y ≡ x = cc in subst P same here
found_has_where false P y x r here later h = later h

found_has : {X : Type 0} (P : X → Type 0) (p : X → Bool) (xs : List X) (x : X) → AllByRecursion P xs → find p xs ≡ Some x → P x
found_has P p [] x all h = cc
found_has P p (y ∷ ys) x all h = found_has_where (p y) P y x (find p ys) all.0 (λ g. found_has P p ys x all.1 g) h

module _ (types : Types) (sound : IsSchema types) where
  -- the type of a component, found by its name, and its fields
  record Typed (p : Part) : Type 0 where
    type_of : Authoring
    number : type_of.number ≡ p.kind
    named : type_named types (type_name types p.kind) ≡ Some type_of
    fields : type_fields types p.kind ≡ type_of.fields
    names : IsDistinct bytes_eq (map (λ f. f.name) type_of.fields)
    values : Suit type_of.fields p.values

  typed : (p : Part) → IsPart types p → Typed p
  typed p part =
      let a : Authoring = part.authoring in
      let is : nat_eq a.number p.kind ≡ true = found_passes (λ b. nat_eq b.number p.kind) types.authoring a part.found in
      let number : a.number ≡ p.kind = grind (arith, nat_tests) in
      let name : type_name types p.kind ≡ a.name = ap (λ r. unwrap_or (option_map (λ b. b.name) r) []) part.found in
      let by_name : authoring_named types a.name ≡ Some a.number = found_has (λ b. authoring_named types b.name ≡ Some b.number) (λ b. nat_eq b.number p.kind) types.authoring a (authoring_names_found types sound) part.found in
      let are = found_has (λ b. AreFields OfAuthoring b.fields) (λ b. nat_eq b.number p.kind) types.authoring a sound.authoring.fields part.found in
      record {
        type_of = a;
        number = number;
        named = ap (type_named types) name ∙ ap (option_and_then (authoring_of types)) by_name ∙ ap (authoring_of types) number ∙ part.found;
        fields = ap (λ r. unwrap_or (option_map (λ b. b.fields) r) []) part.found;
        names = are.names;
        values = part.values;
      }

  -- components of types of one name are of one type
  same_kind : (p u : Part) → IsPart types p → IsPart types u → type_name types p.kind ≡ type_name types u.kind → p.kind ≡ u.kind
  same_kind p u part other same =
      let a = typed p part in
      let b = typed u other in
      let both : Some a.type_of ≡ Some b.type_of = sym a.named ∙ ap (type_named types) same ∙ b.named in
      let type_ : a.type_of ≡ b.type_of = cc in
      sym a.number ∙ ap (λ x. x.number) type_ ∙ b.number

  -- ---- one component

  abbrev put_values : Objects → ℕ → Object → Authoring → List Given → Result Objects EditFault
  put_values es n o a values = if is_full o a.number then Err fault.ObjectLimit else Ok (changed (with_part (record { kind = a.number; values = values })) es n)

  abbrev put_typed : Objects → ℕ → List RawField → Object → Authoring → Result Objects EditFault
  put_typed es n raws o a = and_so (fitted a.fields raws) (put_values es n o a)

  room_left : (b : Bool) (k : ℕ) → k < most_parts → (not b && nat_le most_parts k) ≡ false
  room_left true k lt = refl
  room_left false k lt = grind (arith, nat_tests)

  put_step : (es : Objects) (n : ℕ) (o : Object) (p : Part) → IsPart types p → numbered es n ≡ Some o → length o.components < most_parts
      → component_put types es n (type_name types p.kind) (written_fields (type_fields types p.kind) p.values) ≡ Ok (changed (with_part p) es n)
  put_step es n o p part found room =
      let t = typed p part in
      let raws : List RawField = written_fields (type_fields types p.kind) p.values in
      let fits : fitted t.type_of.fields raws ≡ Ok p.values = ap (λ fs. fitted t.type_of.fields (written_fields fs p.values)) t.fields ∙ written_back t.type_of.fields p.values t.names t.values in
      ap (λ r. on_object r (λ w. on_type (type_named types (type_name types p.kind)) (put_typed es n raws w))) found
      ∙ ap (λ r. on_type r (put_typed es n raws o)) t.named
      ∙ ap (λ r. and_so r (put_values es n o t.type_of)) fits
      ∙ ap (λ b. if b then Err fault.ObjectLimit else Ok (changed (with_part (record { kind = t.type_of.number; values = p.values })) es n)) (room_left (is_some (part_of o.components t.type_of.number)) (length o.components) room)
      ∙ ap (λ k. Ok (changed (with_part (record { kind = k; values = p.values })) es n)) t.number

  -- ---- the components of the objects of the last scene

  module _ (assets : Numbered (List Given)) (done : Numbered Objects) (s : ℕ) (behind : IsPast s done) where
    abbrev here : Objects → Content
    here es = at types assets done s behind es

    abbrev put_edit : ℕ → List ℕ × List RawField → Edit
    put_edit n w = edit.PutComponent s n w.0 w.1

    abbrev with_parts : Object → List Part → Object
    with_parts o parts = record o { components = parts }

    parts_put : (acc tail : Objects) (n : ℕ) (o : Object) → IsPast n acc → (us ps : List Part) → AllByRecursion (IsPart types) ps → length us + length ps ≤ most_parts
        → Steps (here (acc ++ (n, with_parts o us) ∷ tail)) (map (put_edit n) (map (named_part types) ps)) (here (acc ++ (n, with_parts o (put_all us ps)) ∷ tail))
    parts_put acc tail n o past us [] all few = refl
    parts_put acc tail n o past us (p ∷ ps) all few =
        let es : Objects = acc ++ (n, with_parts o us) ∷ tail in
        let found : numbered es n ≡ Some (with_parts o us) = found_past n acc (with_parts o us) tail past in
        let room : length us < most_parts = omega (arith, few) in
        let more = count_with p us in (
          here (acc ++ (n, with_parts o (with_item (λ q. q.kind) p us)) ∷ tail),
          on_last types assets done s behind (λ xs. component_put types xs n (type_name types p.kind) (written_fields (type_fields types p.kind) p.values)) es _
              (put_step es n (with_parts o us) p all.0 found room ∙ ap (λ xs. Ok xs) (change_past (with_part p) n acc (with_parts o us) tail past)),
          parts_put acc tail n o past (with_item (λ q. q.kind) p us) ps all.1 (omega (arith, more, few)),
        )

    -- all components of one object
    object_put : (acc tail : Objects) (n : ℕ) (o : Object) → IsPast n acc → IsObject types n o → Steps (here (acc ++ hung (n, o) ∷ tail)) (part_edits types s n o) (here (acc ++ (n, o) ∷ tail))
    object_put acc tail n o past sound_ =
        let key : (Part → List ℕ) = (λ p. type_name types p.kind) in
        let value : (Part → List RawField) = (λ p. written_fields (type_fields types p.kind) p.values) in
        let ps : List Part = in_order key value [] o.components in
        let are = sound_.parts in
        let count = count_order key value [] o.components in
        let few = are.few in
        let made : put_all [] ps ≡ o.components = put_in_order key value (IsPart types) same_kind o.components are.each are.order in
        let whole : here (acc ++ (n, with_parts (hung (n, o)).1 (put_all [] ps)) ∷ tail) ≡ here (acc ++ (n, o) ∷ tail) =
        ap (λ parts. here (acc ++ (n, with_parts (hung (n, o)).1 parts) ∷ tail)) made
        ∙ ap (λ k. here (acc ++ (n, record { number = k; parent = o.parent; mark = o.mark; components = o.components }) ∷ tail)) (sym sound_.number) in
        subst (λ ws. Steps (here (acc ++ hung (n, o) ∷ tail)) (map (put_edit n) ws) (here (acc ++ (n, o) ∷ tail))) (sym (by_key_order key value o.components))
        (steps_to _ _ _ (map (put_edit n) (map (named_part types) ps)) whole
        (parts_put acc tail n (hung (n, o)).1 past [] ps (all_order key value (IsPart types) [] o.components tt are.each) (omega (arith, count, few))))

    pub components_put : (acc rest : Objects) → IsStrictlySortedBy nat_cmp (keys_of (acc ++ rest)) → AllByRecursion (λ e. IsObject types e.0 e.1) rest → Steps (here (acc ++ map hung rest)) (component_edits types s rest) (here (acc ++ rest))
    components_put acc [] sorted all = refl
    components_put acc (e ∷ rest) sorted all =
        let next : Objects = acc ++ e ∷ [] in
        let half : next ++ map hung rest ≡ acc ++ e ∷ map hung rest = append_assoc acc (e ∷ []) (map hung rest) in
        let whole : next ++ rest ≡ acc ++ e ∷ rest = append_assoc acc (e ∷ []) rest in
        let later = components_put next rest (subst (λ es. IsStrictlySortedBy nat_cmp (keys_of es)) (sym whole) sorted) all.1 in
        steps_then _ _ _ (part_edits types s e.0 e.1) (component_edits types s rest) (object_put acc (map hung rest) e.0 e.1 (past_front acc e.0 e.1 rest sorted) all.0)
        (subst (λ g. Steps g (component_edits types s rest) (here (acc ++ e ∷ rest))) (ap here half) (steps_to (here (next ++ map hung rest)) _ _ (component_edits types s rest) (ap here whole) later))
