-- The components of an object stay valid: one put, one taken away, one with another value.
use Rattle.std.proofs.Common.{◌≡◌, ℕ, suc, ◌≤◌, List, [], ◌∷◌, length, map, Bool, true, false, cond, not, ◌&&◌, nat_eq, nat_le, is_some, Option, Some, None, Result, Ok, Err, Ordering, Less, Equal, Greater, refl, sym, ap, subst, ◌∙◌, true≢false, arith}
use Rattle.std.specs.Prelude.{find, slice_set, option_and_then}
use Rattle.std.specs.List.{AllByRecursion}
use Rattle.std.specs.List.Sorted.{IsStrictlySortedBy}
use Rattle.std.specs.Ordering.{nat_cmp, match_ordering}
use Rattle.std.proofs.lemmas.Bool.Decides.{nat_tests}
use Rattle.eb_schema.specs.declared.kinds.Authoring.{Authoring}
use Rattle.eb_schema.specs.Schemas.{Types, authoring_of, authoring_named}
use Rattle.eb_schema.specs.Rows.{with_item}
use Rattle.eb_schema.proofs.SoundFacts.{unless}
use Rattle.eb_schema.proofs.TypeOrderFacts.{IsBelow, sorted_with}
use Rattle.eb_scene.specs.declared.objects.Object.{Object}
use Rattle.eb_scene.specs.declared.objects.Part.{Part}
use Rattle.eb_scene.specs.declared.objects.Given.{Given}
use Rattle.eb_scene.specs.declared.edits.Raw.{Raw}
use Rattle.eb_scene.specs.declared.edits.RawField.{RawField}
use Rattle.eb_scene.specs.declared.edits.EditFault.{EditFault}
use Rattle.eb_scene.specs.declared.edits.EditFault.TheVariants as fault
use Rattle.eb_scene.specs.Numbers.{without_item, without_number}
use Rattle.eb_scene.specs.Fits.{fitted, field_fitted}
use Rattle.eb_scene.specs.Projects.{Objects, numbered, part_of}
use Rattle.eb_scene.specs.Tables.{changed}
use Rattle.eb_scene.specs.Edits.{most_parts, type_named, with_part, without_part, set_part, with_value, on_type, on_object, and_so, is_full, component_put, component_removed, field_set}
use Rattle.eb_scene.specs.Validity.{Suit, IsPart, AreParts, IsObject, IsScene}
use Rattle.eb_scene.proofs.NumberFacts.{below_further, sorted_without}
use Rattle.eb_scene.proofs.ValidObjects.{made, ok_same, changed_valid}
use Rattle.eb_scene.proofs.ValidParts.{fitted_suit, set_fitted}

-- ---- the steps of an edit of a component

pub object_step : {S : Type 0} (r : Option Object) (f : Object → Result S EditFault) (s : S) → on_object r f ≡ Ok s → (o : Object) × (r ≡ Some o) × (f o ≡ Ok s)
object_step None f s h = cc
object_step (Some o) f s h = (o, refl, h)

pub type_step : {S : Type 0} (r : Option Authoring) (f : Authoring → Result S EditFault) (s : S) → on_type r f ≡ Ok s → (a : Authoring) × (r ≡ Some a) × (f a ≡ Ok s)
type_step None f s h = cc
type_step (Some a) f s h = (a, refl, h)

pub so_step : {S T : Type 0} (r : Result S EditFault) (f : S → Result T EditFault) (t : T) → and_so r f ≡ Ok t → (s : S) × (r ≡ Ok s) × (f s ≡ Ok t)
so_step (Err e) f t h = cc
so_step (Ok s) f t h = (s, refl, h)

-- ---- an authoring type that was found by its name has its number

passes_where : {X : Type 0} (b : Bool) (p : X → Bool) (y x : X) (r : Option X) → p y ≡ b → cond b (Some y) r ≡ Some x → (r ≡ Some x → p x ≡ true) → p x ≡ true
passes_where true p y x r is h later = let same : y ≡ x = cc in subst (λ z. p z ≡ true) same is
passes_where false p y x r is h later = later h

pub found_passes : {X : Type 0} (p : X → Bool) (xs : List X) (x : X) → find p xs ≡ Some x → p x ≡ true
found_passes p [] x h = cc
found_passes p (y ∷ ys) x h = passes_where (p y) p y x (find p ys) refl h (λ g. found_passes p ys x g)

numbered_type : (types : Types) (r : Option ℕ) (a : Authoring) → option_and_then (authoring_of types) r ≡ Some a → authoring_of types a.number ≡ Some a
numbered_type types None a h = cc
numbered_type types (Some k) a h =
    let is : nat_eq a.number k ≡ true = found_passes (λ b. nat_eq b.number k) types.authoring a h in
    let same : k ≡ a.number = grind (arith, nat_tests) in
    subst (λ j. authoring_of types j ≡ Some a) same h

pub type_found : (types : Types) (name : List ℕ) (a : Authoring) → type_named types name ≡ Some a → authoring_of types a.number ≡ Some a
type_found types name a h = numbered_type types (authoring_named types name) a h

-- ---- lists of components

module _ (P : Part → Type 0) where
  all_with_where : (c : Ordering) (x y : Part) (ys : List Part) → P x → P y → AllByRecursion P ys → AllByRecursion P (with_item (λ p. p.kind) x ys)
      → AllByRecursion P (match_ordering c (x ∷ y ∷ ys) (x ∷ ys) (y ∷ with_item (λ p. p.kind) x ys))
  all_with_where Less x y ys here top rest later = (here, (top, rest))
  all_with_where Equal x y ys here top rest later = (here, rest)
  all_with_where Greater x y ys here top rest later = (top, later)

  pub all_with : (x : Part) (ys : List Part) → P x → AllByRecursion P ys → AllByRecursion P (with_item (λ p. p.kind) x ys)
  all_with x [] here all = (here, tt)
  all_with x (y ∷ ys) here all = all_with_where (nat_cmp x.kind y.kind) x y ys here all.0 all.1 (all_with x ys here all.1)

  all_less_where : (b : Bool) (y : Part) (ys rest : List Part) → P y → AllByRecursion P ys → AllByRecursion P rest → AllByRecursion P (cond b ys (y ∷ rest))
  all_less_where true y ys rest top all later = all
  all_less_where false y ys rest top all later = (top, later)

  pub all_less : (ys : List Part) (kind : ℕ) → AllByRecursion P ys → AllByRecursion P (without_item (λ p. p.kind) ys kind)
  all_less [] kind all = tt
  all_less (y ∷ ys) kind all = all_less_where (nat_eq y.kind kind) y ys (without_item (λ p. p.kind) ys kind) all.0 all.1 (all_less ys kind all.1)

  all_valued_where : (b : Bool) (kind place : ℕ) (value : Given) (y : Part) (ys : List Part) → nat_eq y.kind kind ≡ b
      → ((p : Part) → nat_eq p.kind kind ≡ true → P p → P (record p { values = slice_set p.values place value })) → P y → AllByRecursion P ys → AllByRecursion P (set_part kind place value ys)
      → AllByRecursion P (cond b (record y { values = slice_set y.values place value } ∷ ys) (y ∷ set_part kind place value ys))
  all_valued_where true kind place value y ys is kept top rest later = (kept y is top, rest)
  all_valued_where false kind place value y ys is kept top rest later = (top, later)

  pub all_valued : (kind place : ℕ) (value : Given) (ys : List Part) → ((p : Part) → nat_eq p.kind kind ≡ true → P p → P (record p { values = slice_set p.values place value }))
      → AllByRecursion P ys → AllByRecursion P (set_part kind place value ys)
  all_valued kind place value [] kept all = tt
  all_valued kind place value (y ∷ ys) kept all = all_valued_where (nat_eq y.kind kind) kind place value y ys refl kept all.0 all.1 (all_valued kind place value ys kept all.1)

abbrev pub kinds : List Part → List ℕ
kinds ps = map (λ p. p.kind) ps

kinds_less_where : (b : Bool) (y : Part) (ys rest : List Part) (js : List ℕ) → kinds rest ≡ js → kinds (cond b ys (y ∷ rest)) ≡ cond b (kinds ys) (y.kind ∷ js)
kinds_less_where true y ys rest js later = refl
kinds_less_where false y ys rest js later = ap (λ ks. y.kind ∷ ks) later

kinds_less : (ys : List Part) (kind : ℕ) → kinds (without_item (λ p. p.kind) ys kind) ≡ without_number (kinds ys) kind
kinds_less [] kind = refl
kinds_less (y ∷ ys) kind = kinds_less_where (nat_eq y.kind kind) y ys (without_item (λ p. p.kind) ys kind) (without_number (kinds ys) kind) (kinds_less ys kind)

kinds_valued_where : (b : Bool) (y z : Part) (ys rest : List Part) → z.kind ≡ y.kind → kinds rest ≡ kinds ys → kinds (cond b (z ∷ ys) (y ∷ rest)) ≡ kinds (y ∷ ys)
kinds_valued_where true y z ys rest same later = ap (λ k. k ∷ kinds ys) same
kinds_valued_where false y z ys rest same later = ap (λ ks. y.kind ∷ ks) later

kinds_valued : (kind place : ℕ) (value : Given) (ys : List Part) → kinds (set_part kind place value ys) ≡ kinds ys
kinds_valued kind place value [] = refl
kinds_valued kind place value (y ∷ ys) = kinds_valued_where (nat_eq y.kind kind) y (record y { values = slice_set y.values place value }) ys (set_part kind place value ys) refl (kinds_valued kind place value ys)

count_where : (b : Bool) (y z : Part) (ys rest : List Part) → length rest ≡ length ys → length (cond b (z ∷ ys) (y ∷ rest)) ≡ suc (length ys)
count_where true y z ys rest later = refl
count_where false y z ys rest later = ap suc later

count_valued : (kind place : ℕ) (value : Given) (ys : List Part) → length (set_part kind place value ys) ≡ length ys
count_valued kind place value [] = refl
count_valued kind place value (y ∷ ys) = count_where (nat_eq y.kind kind) y (record y { values = slice_set y.values place value }) ys (set_part kind place value ys) (count_valued kind place value ys)

count_less_where : (b : Bool) (y : Part) (ys rest : List Part) → length rest ≤ length ys → length (cond b ys (y ∷ rest)) ≤ suc (length ys)
count_less_where true y ys rest later = omega arith
count_less_where false y ys rest later = omega (arith, later)

count_less : (ys : List Part) (kind : ℕ) → length (without_item (λ p. p.kind) ys kind) ≤ length ys
count_less [] kind = omega arith
count_less (y ∷ ys) kind = count_less_where (nat_eq y.kind kind) y ys (without_item (λ p. p.kind) ys kind) (count_less ys kind)

count_with_where : (c : Ordering) (x y : Part) (ys rest : List Part) → length rest ≤ suc (length ys) → length (match_ordering c (x ∷ y ∷ ys) (x ∷ ys) (y ∷ rest)) ≤ suc (suc (length ys))
count_with_where Less x y ys rest later = omega arith
count_with_where Equal x y ys rest later = omega arith
count_with_where Greater x y ys rest later = omega (arith, later)

pub count_with : (x : Part) (ys : List Part) → length (with_item (λ p. p.kind) x ys) ≤ suc (length ys)
count_with x [] = omega arith
count_with x (y ∷ ys) = count_with_where (nat_cmp x.kind y.kind) x y ys (with_item (λ p. p.kind) x ys) (count_with x ys)

pub absent_below : (kind : ℕ) (ys : List Part) → IsBelow kind (kinds ys) → part_of ys kind ≡ None
absent_below kind [] below = refl
absent_below kind (y ∷ ys) below =
    let apart : nat_eq y.kind kind ≡ false = grind (arith, nat_tests, below.0) in
    ap (λ b. cond b (Some y) (part_of ys kind)) apart ∙ absent_below kind ys below.1

count_again_where : (c : Ordering) (x y : Part) (ys : List Part) → nat_cmp x.kind y.kind ≡ c → IsBelow y.kind (kinds ys) → is_some (part_of (y ∷ ys) x.kind) ≡ true
    → (is_some (part_of ys x.kind) ≡ true → length (with_item (λ p. p.kind) x ys) ≡ length ys)
    → length (match_ordering c (x ∷ y ∷ ys) (x ∷ ys) (y ∷ with_item (λ p. p.kind) x ys)) ≡ suc (length ys)
count_again_where Less x y ys is below there later =
    let none_ : part_of (y ∷ ys) x.kind ≡ None = absent_below x.kind (y ∷ ys) (is, below_further x.kind y.kind (kinds ys) is below) in
    absurd (true≢false (sym there ∙ ap is_some none_))
count_again_where Equal x y ys is below there later = refl
count_again_where Greater x y ys is below there later =
    let apart : nat_eq y.kind x.kind ≡ false = grind (arith, nat_tests) in
    ap suc (later (sym (ap (λ b. is_some (cond b (Some y) (part_of ys x.kind))) apart) ∙ there))

-- one that was there takes no room
count_again : (x : Part) (ys : List Part) → IsStrictlySortedBy nat_cmp (kinds ys) → is_some (part_of ys x.kind) ≡ true → length (with_item (λ p. p.kind) x ys) ≡ length ys
unfolding IsStrictlySortedBy
count_again x [] sorted there = absurd (true≢false (sym there))
count_again x (y ∷ ys) sorted there = count_again_where (nat_cmp x.kind y.kind) x y ys refl sorted.0 there (λ h. count_again x ys sorted.1 h)

room_where : (b : Bool) (x : Part) (ys : List Part) → is_some (part_of ys x.kind) ≡ b → IsStrictlySortedBy nat_cmp (kinds ys) → length ys ≤ most_parts → (not b && nat_le most_parts (length ys)) ≡ false
    → length (with_item (λ p. p.kind) x ys) ≤ most_parts
room_where true x ys is sorted few full = let same = count_again x ys sorted is in omega (arith, same, few)
room_where false x ys is sorted few full = let more = count_with x ys in let below : suc (length ys) ≤ most_parts = grind (arith, nat_tests, full) in omega (arith, more, below)

module _ (types : Types) where
  with_parts : (x : Part) (ys : List Part) → IsPart types x → (not (is_some (part_of ys x.kind)) && nat_le most_parts (length ys)) ≡ false → AreParts types ys → AreParts types (with_item (λ p. p.kind) x ys)
  with_parts x ys here full are =
      record {
        order = sorted_with (λ p. p.kind) x ys are.order;
        few = room_where (is_some (part_of ys x.kind)) x ys refl are.order are.few full;
        each = all_with (IsPart types) x ys here are.each;
      }

  less_parts : (kind : ℕ) (ys : List Part) → AreParts types ys → AreParts types (without_item (λ p. p.kind) ys kind)
  less_parts kind ys are =
      record {
        order = subst (IsStrictlySortedBy nat_cmp) (sym (kinds_less ys kind)) (sorted_without kind (kinds ys) are.order);
        few = let fewer = count_less ys kind in let few = are.few in omega (arith, fewer, few);
        each = all_less (IsPart types) ys kind are.each;
      }

  valued_part : (a : Authoring) (name : List ℕ) (raw : Raw) (r : ℕ × Given) → authoring_of types a.number ≡ Some a → field_fitted a.fields name raw ≡ Ok r
      → (p : Part) → nat_eq p.kind a.number ≡ true → IsPart types p → IsPart types (record p { values = slice_set p.values r.0 r.1 })
  valued_part a name raw r found fits p is sound =
      let same : p.kind ≡ a.number = grind (arith, nat_tests) in
      let both : Some sound.authoring ≡ Some a = sym sound.found ∙ ap (authoring_of types) same ∙ found in
      let type_ : a ≡ sound.authoring = cc in
      record {
        authoring = a;
        found = ap (authoring_of types) same ∙ found;
        values = set_fitted a.fields name raw r fits p.values (subst (λ b. Suit b.fields p.values) (sym type_) sound.values);
      }

  valued_parts : (a : Authoring) (name : List ℕ) (raw : Raw) (r : ℕ × Given) → authoring_of types a.number ≡ Some a → field_fitted a.fields name raw ≡ Ok r
      → (ys : List Part) → AreParts types ys → AreParts types (set_part a.number r.0 r.1 ys)
  valued_parts a name raw r found fits ys are =
      record {
        order = subst (IsStrictlySortedBy nat_cmp) (sym (kinds_valued a.number r.0 r.1 ys)) are.order;
        few = subst (λ k. k ≤ most_parts) (sym (count_valued a.number r.0 r.1 ys)) are.few;
        each = all_valued (IsPart types) a.number r.0 r.1 ys (valued_part a name raw r found fits) are.each;
      }

  -- ---- objects, and scenes

  other_parts : (n : ℕ) (o : Object) (parts : List Part) → IsObject types n o → AreParts types parts → IsObject types n (record o { components = parts })
  other_parts n o parts sound are = record { number = sound.number; range = sound.range; mark = sound.mark; parts = are }

  same_object : (es : Objects) (n : ℕ) (o w : Object) → numbered es n ≡ Some o → numbered es n ≡ Some w → o ≡ w
  same_object es n o w p q = let both : Some o ≡ Some w = sym p ∙ q in cc

  put_with : (es : Objects) (n : ℕ) (part : Part) (o : Object) (fs : Objects) → IsScene types es → IsPart types part → numbered es n ≡ Some o → is_full o part.kind ≡ false
      → made (changed (with_part part) es n) ≡ made fs → IsScene types fs
  put_with es n part o fs scene sound found room done =
      subst (IsScene types) (ok_same (changed (with_part part) es n) fs done)
      (changed_valid types (with_part part) es n (λ w. refl)
      (λ w there old. other_parts n w _ old (with_parts part w.components sound (subst (λ x. is_full x part.kind ≡ false) (same_object es n o w found there) room) old.parts)) scene)

  pub put : (es : Objects) (n : ℕ) (name : List ℕ) (raws : List RawField) (fs : Objects) → IsScene types es → component_put types es n name raws ≡ Ok fs → IsScene types fs
  put es n name raws fs scene done =
      let o = object_step (numbered es n) _ fs done in
      let a = type_step (type_named types name) _ fs o.2 in
      let v = so_step (fitted a.0.fields raws) _ fs a.2 in
      let b = unless (is_full o.0 a.0.number) fault.ObjectLimit _ fs v.2 in
      put_with es n (record { kind = a.0.number; values = v.0 }) o.0 fs scene
      (record { authoring = a.0; found = type_found types name a.0 a.1; values = fitted_suit a.0.fields raws v.0 v.1 }) o.1 b.0 b.1

  taken_with : (es : Objects) (n kind : ℕ) (fs : Objects) → IsScene types es → made (changed (without_part kind) es n) ≡ made fs → IsScene types fs
  taken_with es n kind fs scene done =
      subst (IsScene types) (ok_same (changed (without_part kind) es n) fs done)
      (changed_valid types (without_part kind) es n (λ w. refl) (λ w there old. other_parts n w _ old (less_parts kind w.components old.parts)) scene)

  pub taken : (es : Objects) (n : ℕ) (name : List ℕ) (fs : Objects) → IsScene types es → component_removed types es n name ≡ Ok fs → IsScene types fs
  taken es n name fs scene done =
      let o = object_step (numbered es n) _ fs done in
      let a = type_step (type_named types name) _ fs o.2 in
      let b = unless (not (is_some (part_of o.0.components a.0.number))) fault.NoComponent _ fs a.2 in
      taken_with es n a.0.number fs scene b.1

  valued_with : (es : Objects) (n : ℕ) (a : Authoring) (field : List ℕ) (raw : Raw) (r : ℕ × Given) (fs : Objects) → IsScene types es → authoring_of types a.number ≡ Some a → field_fitted a.fields field raw ≡ Ok r
      → made (changed (with_value a.number r.0 r.1) es n) ≡ made fs → IsScene types fs
  valued_with es n a field raw r fs scene found fits done =
      subst (IsScene types) (ok_same (changed (with_value a.number r.0 r.1) es n) fs done)
      (changed_valid types (with_value a.number r.0 r.1) es n (λ w. refl) (λ w there old. other_parts n w _ old (valued_parts a field raw r found fits w.components old.parts)) scene)

  pub valued : (es : Objects) (n : ℕ) (name field : List ℕ) (raw : Raw) (fs : Objects) → IsScene types es → field_set types es n name field raw ≡ Ok fs → IsScene types fs
  valued es n name field raw fs scene done =
      let o = object_step (numbered es n) _ fs done in
      let a = type_step (type_named types name) _ fs o.2 in
      let b = unless (not (is_some (part_of o.0.components a.0.number))) fault.NoComponent _ fs a.2 in
      let r = so_step (field_fitted a.0.fields field raw) _ fs b.1 in
      valued_with es n a.0 field raw r.0 fs scene (type_found types name a.0 a.1) r.1 r.2
