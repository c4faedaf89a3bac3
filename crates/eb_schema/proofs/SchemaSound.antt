-- What a draft stands for is a schema.
use Rattle.std.proofs.Common.{◌≡◌, ℕ, List, [], ◌∷◌, ◌++◌, map, Bool, true, false, cond, nat_eq, Option, Some, None, Ok, refl, sym, ap, ◌∙◌, subst, true≢false, arith}
use Rattle.std.specs.Prelude.{◌&&◌, find, bytes_eq, option_map}
use Rattle.std.specs.List.{list_any, AllByRecursion, IsDistinct}
use Rattle.std.specs.Cmp.Lexicographic.{pointwise}
use Rattle.std.proofs.lemmas.Bool.Decides.{nat_tests}
use Rattle.std.proofs.lemmas.Slice.Eq.{bytes_eq-Decides}
use Rattle.eb_schema.specs.declared.kinds.Kind.{Kind}
use Rattle.eb_schema.specs.declared.kinds.Field.{Field}
use Rattle.eb_schema.specs.declared.kinds.Component.{Component}
use Rattle.eb_schema.specs.declared.kinds.Authoring.{Authoring}
use Rattle.eb_schema.specs.declared.drafts.Placed.{Placed}
use Rattle.eb_schema.specs.declared.drafts.DraftField.{DraftField}
use Rattle.eb_schema.specs.declared.drafts.DraftComponent.{DraftComponent}
use Rattle.eb_schema.specs.declared.drafts.DraftAuthoring.{DraftAuthoring}
use Rattle.eb_schema.specs.declared.drafts.Draft.{Draft}
use Rattle.eb_schema.specs.declared.drafts.Lists.{Lists}
use Rattle.eb_schema.specs.declared.drafts.Holder.{Holder}
use Rattle.eb_schema.specs.declared.drafts.Holder.TheVariants.{OfAssets, OfAuthoring, OfComponent}
use Rattle.eb_schema.specs.SchemaTests.{allows, allowed_kind, kind_of, each_of, each_within, field_from, fields_from, component_from, same_field, same_fields, is_named, copied_to, copy_named, copy_where, copy_from, authoring_with, authoring_from, lists_from, types_of}
use Rattle.eb_schema.specs.declared.kinds.Kind.TheVariants.{I64}
use Rattle.eb_schema.specs.Schemas.{plain_field, plain_types}
use Rattle.eb_schema.specs.SoundSchemas.{AreFields, AreComponents, CopyMatches, same_copy, AreAuthoring, IsSchema}
use Rattle.eb_schema.proofs.SoundFacts.{bound, unless, provided, neither, made_of, none_of, each_has, distinct, few_made}

-- ---- fields

-- what a field that was made of a draft says of it
record FieldMade (holder : Holder) (before : List DraftField) (d : DraftField) (f : Field) : Type 0 where
  fresh : list_any (λ c. bytes_eq c.name.value d.name.value) before ≡ false
  name : f.name ≡ d.name.value
  kind : kind_of d.kind.value ≡ Some f.kind
  allowed : allows holder f.kind ≡ true

kind_made : (holder : Holder) (place : ℕ) (o : Option Kind) (k : Kind) → allowed_kind holder place o ≡ Ok k → (o ≡ Some k) × (allows holder k ≡ true)
kind_made holder place None k h = cc
kind_made holder place (Some j) k h =
    let p = provided (allows holder j) _ _ k h in
    let same : j ≡ k = cc in
    (ap Some same, ap (allows holder) (sym same) ∙ p.0)

field_made : (holder : Holder) (before : List DraftField) (d : DraftField) (f : Field) → field_from holder before d ≡ Ok f → FieldMade holder before d f
unfolding field_from
field_made holder before d f h =
    let u = unless (list_any (λ c. bytes_eq c.name.value d.name.value) before) _ _ f h in
    let b = bound (allowed_kind holder d.kind.place (kind_of d.kind.value)) _ f u.1 in
    let k = kind_made holder d.kind.place (kind_of d.kind.value) b.0 b.1 in
    let same : record { name = d.name.value; kind = b.0 } ≡ f = cc in
    let kinds : b.0 ≡ f.kind = ap (λ g. g.kind) same in
    record { fresh = u.0; name = sym (ap (λ g. g.name) same); kind = k.0 ∙ ap Some kinds; allowed = ap (allows holder) (sym kinds) ∙ k.1 }

pub fields_sound : (holder : Holder) (drafts : Placed (List DraftField)) (fields : List Field) → fields_from holder drafts ≡ Ok fields → AreFields holder fields
fields_sound holder drafts fields h =
    let few = few_made (field_from holder) 16 drafts fields h in
    record {
      few = few.0;
      names = distinct (field_from holder) bytes_eq (λ d. d.name.value) (λ f. f.name) (λ before d f made. let m = field_made holder before d f made in (m.fresh, m.name)) drafts.value fields few.1;
      kinds = each_has (field_from holder) (λ f. allows holder f.kind ≡ true) (λ before d f made. (field_made holder before d f made).allowed) [] drafts.value fields few.1;
    }

both : (a b : Bool) → (a && b) ≡ true → (a ≡ true) × (b ≡ true)
both true b h = (refl, h)
both false b h = absurd (true≢false (sym h))

same_text : (xs ys : List ℕ) → bytes_eq xs ys ≡ true → xs ≡ ys
same_text xs ys h = (bytes_eq-Decides xs ys).0 h

same_kind : (a b : List ℕ) (j k : Kind) → a ≡ b → kind_of a ≡ Some j → kind_of b ≡ Some k → j ≡ k
same_kind a b j k same p q = let e : Some j ≡ Some k = sym p ∙ ap kind_of same ∙ q in cc

field_of : {f g : Field} → f.name ≡ g.name → f.kind ≡ g.kind → f ≡ g
field_of {f} {g} names kinds = ap (λ n. record { name = n; kind = f.kind }) names ∙ ap (λ k. record { name = g.name; kind = k }) kinds

same_made : (h1 h2 : Holder) (b1 b2 : List DraftField) (d e : DraftField) (f g : Field) → same_field d e ≡ true → field_from h1 b1 d ≡ Ok f → field_from h2 b2 e ≡ Ok g → f ≡ g
same_made h1 h2 b1 b2 d e f g same p q =
    let m = field_made h1 b1 d f p in
    let n = field_made h2 b2 e g q in
    let s = both (bytes_eq d.name.value e.name.value) (bytes_eq d.kind.value e.kind.value) same in
    let names : f.name ≡ g.name = m.name ∙ same_text d.name.value e.name.value s.0 ∙ sym n.name in
    let kinds : f.kind ≡ g.kind = same_kind d.kind.value e.kind.value f.kind g.kind (same_text d.kind.value e.kind.value s.1) m.kind n.kind in
    field_of names kinds

-- drafts of the same names and kinds stand for the same fields
same_lists : (h1 h2 : Holder) (b1 b2 ds es : List DraftField) (fs gs : List Field) → pointwise same_field ds es ≡ true → each_of (field_from h1) b1 ds ≡ Ok fs → each_of (field_from h2) b2 es ≡ Ok gs → fs ≡ gs
same_lists h1 h2 b1 b2 [] [] fs gs same p q = none_of (field_from h1) b1 fs p ∙ sym (none_of (field_from h2) b2 gs q)
same_lists h1 h2 b1 b2 [] (e ∷ es) fs gs same p q = absurd (true≢false (sym same))
same_lists h1 h2 b1 b2 (d ∷ ds) [] fs gs same p q = absurd (true≢false (sym same))
same_lists h1 h2 b1 b2 (d ∷ ds) (e ∷ es) fs gs same p q =
    let m = made_of (field_from h1) b1 d ds fs p in
    let n = made_of (field_from h2) b2 e es gs q in
    let s = both (same_field d e) (pointwise same_field ds es) same in
    let heads : m.first ≡ n.first = same_made h1 h2 b1 b2 d e m.first n.first s.0 m.made n.made in
    let tails : m.rest ≡ n.rest = same_lists h1 h2 (b1 ++ d ∷ []) (b2 ++ e ∷ []) ds es m.rest n.rest s.1 m.later n.later in
    m.all ∙ ap (λ x. x ∷ m.rest) heads ∙ ap (λ xs. n.first ∷ xs) tails ∙ sym n.all

-- ---- component types

record ComponentMade (before : List DraftComponent) (d : DraftComponent) (c : Component) : Type 0 where
  fresh_name : list_any (λ b. bytes_eq b.name.value d.name.value) before ≡ false
  fresh_number : list_any (λ b. nat_eq b.number.value d.number.value) before ≡ false
  name : c.name ≡ d.name.value
  number : c.number ≡ d.number.value
  fields : fields_from OfComponent d.fields ≡ Ok c.fields

component_made : (before : List DraftComponent) (d : DraftComponent) (c : Component) → component_from before d ≡ Ok c → ComponentMade before d c
unfolding component_from
component_made before d c h =
    let b = bound (fields_from OfComponent d.fields) _ c h in
    let u = unless (list_any (λ b. bytes_eq b.name.value d.name.value) before) _ _ c b.2 in
    let v = unless (list_any (λ b. nat_eq b.number.value d.number.value) before) _ _ c u.1 in
    let same : record { number = d.number.value; name = d.name.value; mode = d.mode; fields = b.0 } ≡ c = cc in
    record {
      fresh_name = u.0;
      fresh_number = v.0;
      name = sym (ap (λ x. x.name) same);
      number = sym (ap (λ x. x.number) same);
      fields = b.1 ∙ ap (λ x. Ok x.fields) same;
    }

pub components_sound : (drafts : Placed (List DraftComponent)) (components : List Component) → each_within 128 component_from drafts ≡ Ok components → AreComponents components
components_sound drafts components h =
    let few = few_made component_from 128 drafts components h in
    record {
      few = few.0;
      names = distinct component_from bytes_eq (λ d. d.name.value) (λ c. c.name) (λ before d c made. let m = component_made before d c made in (m.fresh_name, m.name)) drafts.value components few.1;
      numbers = distinct component_from nat_eq (λ d. d.number.value) (λ c. c.number) (λ before d c made. let m = component_made before d c made in (m.fresh_number, m.number)) drafts.value components few.1;
      fields = each_has component_from (λ c. AreFields OfComponent c.fields) (λ before d c made. fields_sound OfComponent d.fields c.fields (component_made before d c made).fields) [] drafts.value components few.1;
    }

-- a number that none of the items has isn't that of one of them
other_where : (b : Bool) (m n : ℕ) (d : Component) (ds : List Component) (c : Component) → nat_eq d.number n ≡ b → nat_eq m d.number ≡ false → (find (λ c. nat_eq c.number n) ds ≡ Some c → nat_eq m n ≡ false)
    → cond b (Some d) (find (λ c. nat_eq c.number n) ds) ≡ Some c → nat_eq m n ≡ false
other_where true m n d ds c is first later h = grind (arith, nat_tests)
other_where false m n d ds c is first later h = later h

other_number : (m n : ℕ) (cs : List Component) (c : Component) → AllByRecursion (λ k. nat_eq m k ≡ false) (map (λ c. c.number) cs) → find (λ c. nat_eq c.number n) cs ≡ Some c → nat_eq m n ≡ false
other_number m n [] c none h = cc
other_number m n (d ∷ ds) c none h = other_where (nat_eq d.number n) m n d ds c refl none.0 (other_number m n ds c none.1) h

-- the component type that was made of a draft is the one of its number
record Found (d : DraftComponent) (cs : List Component) : Type 0 where
  component : Component
  found : find (λ c. nat_eq c.number d.number.value) cs ≡ Some component
  name : component.name ≡ d.name.value
  fields : fields_from OfComponent d.fields ≡ Ok component.fields

found_first : (before : List DraftComponent) (d : DraftComponent) (c : Component) (cs : List Component) → component_from before d ≡ Ok c → Found d (c ∷ cs)
found_first before d c cs made =
    let m = component_made before d c made in
    let here : nat_eq c.number d.number.value ≡ true = let same = m.number in grind (arith, nat_tests) in
    record { component = c; found = ap (λ b. cond b (Some c) (find (λ x. nat_eq x.number d.number.value) cs)) here; name = m.name; fields = m.fields }

found_later : (d : DraftComponent) (c : Component) (cs : List Component) → AllByRecursion (λ k. nat_eq c.number k ≡ false) (map (λ c. c.number) cs) → Found d cs → Found d (c ∷ cs)
found_later d c cs none f =
    let other = other_number c.number d.number.value cs f.component none f.found in
    record { component = f.component; found = ap (λ b. cond b (Some c) (find (λ x. nat_eq x.number d.number.value) cs)) other ∙ f.found; name = f.name; fields = f.fields }

found_where : (b : Bool) (name : List ℕ) (before : List DraftComponent) (e d : DraftComponent) (es : List DraftComponent) (c : Component) (cs : List Component) → component_from before e ≡ Ok c
    → AllByRecursion (λ k. nat_eq c.number k ≡ false) (map (λ c. c.number) cs) → (find (λ c. bytes_eq c.name.value name) es ≡ Some d → Found d cs) → cond b (Some e) (find (λ c. bytes_eq c.name.value name) es) ≡ Some d
    → Found d (c ∷ cs)
found_where true name before e d es c cs made none later is =
    let same : e ≡ d = cc in
    subst (λ x. Found x (c ∷ cs)) same (found_first before e c cs made)
found_where false name before e d es c cs made none later is = found_later d c cs none (later is)

found_made : (name : List ℕ) (before ds : List DraftComponent) (cs : List Component) (d : DraftComponent) → IsDistinct nat_eq (map (λ c. c.number) cs) → each_of component_from before ds ≡ Ok cs
    → find (λ c. bytes_eq c.name.value name) ds ≡ Some d → Found d cs
unfolding IsDistinct
found_made name before [] cs d apart h is = cc
found_made name before (e ∷ es) cs d apart h is =
    let m = made_of component_from before e es cs h in
    let parts : IsDistinct nat_eq (map (λ c. c.number) (m.first ∷ m.rest)) = subst (λ xs. IsDistinct nat_eq (map (λ c. c.number) xs)) m.all apart in
    subst (Found d) (sym m.all)
    (found_where (bytes_eq e.name.value name) name before e d es m.first m.rest m.made parts.0 (found_made name (before ++ e ∷ []) es m.rest d parts.1 m.later) is)

-- ---- authoring types

record AuthoringMade (components : List DraftComponent) (before : List DraftAuthoring) (d : DraftAuthoring) (a : Authoring) : Type 0 where
  fresh_name : list_any (λ b. bytes_eq b.name.value d.name.value) before ≡ false
  fresh_number : list_any (λ b. nat_eq b.number.value d.number.value) before ≡ false
  name : a.name ≡ d.name.value
  number : a.number ≡ d.number.value
  copy : copy_from components before d ≡ Ok a.copy
  fields : fields_from OfAuthoring d.fields ≡ Ok a.fields

authoring_made : (components : List DraftComponent) (before : List DraftAuthoring) (d : DraftAuthoring) (a : Authoring) → authoring_from components before d ≡ Ok a → AuthoringMade components before d a
unfolding authoring_from authoring_with
authoring_made components before d a h =
    let b = bound (copy_from components before d) _ a h in
    let f = bound (fields_from OfAuthoring d.fields) _ a b.2 in
    let u = unless (list_any (λ b. bytes_eq b.name.value d.name.value) before) _ _ a f.2 in
    let v = unless (list_any (λ b. nat_eq b.number.value d.number.value) before) _ _ a u.1 in
    let same : record { number = d.number.value; name = d.name.value; copy = b.0; fields = f.0 } ≡ a = cc in
    record {
      fresh_name = u.0;
      fresh_number = v.0;
      name = sym (ap (λ x. x.name) same);
      number = sym (ap (λ x. x.number) same);
      copy = b.1 ∙ ap (λ x. Ok x.copy) same;
      fields = f.1 ∙ ap (λ x. Ok x.fields) same;
    }

passes_where : {X : Type 0} (p : X → Bool) (b : Bool) (y x : X) (o : Option X) → p y ≡ b → (o ≡ Some x → p x ≡ true) → cond b (Some y) o ≡ Some x → p x ≡ true
passes_where p true y x o is later h = let same : y ≡ x = cc in ap p (sym same) ∙ is
passes_where p false y x o is later h = later h

find_passes : {X : Type 0} (p : X → Bool) (xs : List X) (x : X) → find p xs ≡ Some x → p x ≡ true
find_passes p [] x h = cc
find_passes p (y ∷ ys) x h = passes_where p (p y) y x (find p ys) refl (find_passes p ys x) h

not_true : (b : Bool) → (b ≡ true → ⊥) → b ≡ false
not_true true never = absurd (never refl)
not_true false never = refl

differ : (m n : List ℕ) → bytes_eq m n ≡ false → m ≡ n → ⊥
differ m n other same = true≢false (sym ((bytes_eq-Decides m n).1 same) ∙ other)

same_none : (o : Option ℕ) → same_copy o None ≡ false
same_none None = refl
same_none (Some k) = refl

module _ (drafts : List DraftComponent) (components : List Component) (apart : IsDistinct nat_eq (map (λ c. c.number) components)) (made : each_of component_from [] drafts ≡ Ok components) where
  -- a draft with the same fields is made to one with the same fields
  same_copied : (d : DraftComponent) (drafted : Placed (List DraftField)) (fields : List Field) → Found d components → same_fields d.fields.value drafted.value ≡ true → fields_from OfAuthoring drafted ≡ Ok fields
      → CopyMatches components fields (Some d.number.value)
  same_copied d drafted fields f same h =
      let left = few_made (field_from OfComponent) 16 d.fields f.component.fields f.fields in
      let right = few_made (field_from OfAuthoring) 16 drafted fields h in
      ap (option_map (λ c. c.fields)) f.found ∙ ap Some (same_lists OfComponent OfAuthoring [] [] d.fields.value drafted.value f.component.fields fields same left.1 right.1)

  copied_sound : (place : ℕ) (o : Option DraftComponent) (drafted : Placed (List DraftField)) (fields : List Field) (copy : Option ℕ) → ((d : DraftComponent) → o ≡ Some d → Found d components) → copied_to place drafted.value o ≡ Ok copy
      → fields_from OfAuthoring drafted ≡ Ok fields → CopyMatches components fields copy
  copied_sound place None drafted fields copy founds is h = cc
  copied_sound place (Some d) drafted fields copy founds is h =
      let p = provided (same_fields d.fields.value drafted.value) _ _ copy is in
      let same : Some d.number.value ≡ copy = cc in
      subst (CopyMatches components fields) same (same_copied d drafted fields (founds d refl) p.0 h)

  named_sound : (before : List DraftAuthoring) (place : ℕ) (drafted : Placed (List DraftField)) (fields : List Field) (name : Option (List ℕ)) (copy : Option ℕ) → copy_where drafts before place drafted.value name ≡ Ok copy
      → fields_from OfAuthoring drafted ≡ Ok fields → CopyMatches components fields copy
  unfolding copy_named
  named_sound before place drafted fields None copy is h =
      let same : None ≡ copy = cc in
      subst (CopyMatches components fields) same tt
  named_sound before place drafted fields (Some name) copy is h =
      let u = unless (list_any (λ a. is_named name a.copy.value) before) _ _ copy is in
      copied_sound place (find (λ c. bytes_eq c.name.value name) drafts) drafted fields copy (λ d found. found_made name [] drafts components d apart made found) u.1 h

  copy_sound : (before : List DraftAuthoring) (d : DraftAuthoring) (fields : List Field) (copy : Option ℕ) → copy_from drafts before d ≡ Ok copy → fields_from OfAuthoring d.fields ≡ Ok fields → CopyMatches components fields copy
  unfolding copy_from
  copy_sound before d fields copy is h = named_sound before d.copy.place d.fields fields d.copy.value copy is h

  -- ---- no two are copied to the same component type

  -- the number of the component type that a name names
  abbrev number_named : Option (List ℕ) → Option ℕ
  number_named None = None
  number_named (Some name) = option_map (λ c. c.number.value) (find (λ c. bytes_eq c.name.value name) drafts)

  copied_number : (place : ℕ) (fields : List DraftField) (o : Option DraftComponent) (copy : Option ℕ) → copied_to place fields o ≡ Ok copy → copy ≡ option_map (λ c. c.number.value) o
  copied_number place fields None copy is = cc
  copied_number place fields (Some d) copy is = let p = provided (same_fields d.fields.value fields) _ _ copy is in cc

  -- none of these is copied to the component type of the name
  abbrev NotNamed : Option (List ℕ) → List DraftAuthoring → Type 0
  NotNamed None before = Unit {0}
  NotNamed (Some name) before = list_any (λ a. is_named name a.copy.value) before ≡ false

  named_copy : (before : List DraftAuthoring) (place : ℕ) (fields : List DraftField) (name : Option (List ℕ)) (copy : Option ℕ) → copy_where drafts before place fields name ≡ Ok copy → (copy ≡ number_named name) × NotNamed name before
  unfolding copy_named
  named_copy before place fields None copy is = (cc, tt)
  named_copy before place fields (Some name) copy is =
      let u = unless (list_any (λ a. is_named name a.copy.value) before) _ _ copy is in
      (copied_number place fields (find (λ c. bytes_eq c.name.value name) drafts) copy u.1, u.0)

  same_named : (m n : List ℕ) (c d : DraftComponent) → find (λ x. bytes_eq x.name.value m) drafts ≡ Some c → find (λ x. bytes_eq x.name.value n) drafts ≡ Some d → nat_eq c.number.value d.number.value ≡ true → m ≡ n
  same_named m n c d first second same =
      let f = found_made m [] drafts components c apart made first in
      let g = found_made n [] drafts components d apart made second in
      let number : c.number.value ≡ d.number.value = grind (arith, nat_tests) in
      let one : Some f.component ≡ Some g.component = sym f.found ∙ ap (λ k. find (λ x. nat_eq x.number k) components) number ∙ g.found in
      let names : f.component.name ≡ g.component.name = ap (λ o. elim o [ None ↦ f.component.name | Some x ↦ x.name ]) one in
      sym (same_text c.name.value m (find_passes (λ x. bytes_eq x.name.value m) drafts c first)) ∙ sym f.name ∙ names ∙ g.name
      ∙ same_text d.name.value n (find_passes (λ x. bytes_eq x.name.value n) drafts d second)

  apart_where : (m n : List ℕ) (o q : Option DraftComponent) → find (λ x. bytes_eq x.name.value m) drafts ≡ o → find (λ x. bytes_eq x.name.value n) drafts ≡ q → bytes_eq m n ≡ false
      → same_copy (option_map (λ c. c.number.value) o) (option_map (λ c. c.number.value) q) ≡ false
  apart_where m n None q first second other = refl
  apart_where m n (Some c) None first second other = refl
  apart_where m n (Some c) (Some d) first second other = not_true (nat_eq c.number.value d.number.value) (λ same. differ m n other (same_named m n c d first second same))

  apart_names : (m : Option (List ℕ)) (n : List ℕ) → is_named n m ≡ false → same_copy (number_named m) (number_named (Some n)) ≡ false
  apart_names None n other = refl
  apart_names (Some m) n other = apart_where m n _ _ refl refl other

  apart_copies : (n : List ℕ) (before : List DraftAuthoring) → list_any (λ a. is_named n a.copy.value) before ≡ false → list_any (λ a. same_copy (number_named a.copy.value) (number_named (Some n))) before ≡ false
  apart_copies n [] h = refl
  apart_copies n (a ∷ before) h =
      let parts = neither (is_named n a.copy.value) (list_any (λ a. is_named n a.copy.value) before) h in
      rw (apart_names a.copy.value n parts.0) (apart_copies n before parts.1)

  none_same : (before : List DraftAuthoring) → list_any (λ a. same_copy (number_named a.copy.value) None) before ≡ false
  none_same [] = refl
  none_same (a ∷ before) = rw (same_none (number_named a.copy.value)) (none_same before)

  fresh_copy : (name : Option (List ℕ)) (before : List DraftAuthoring) → NotNamed name before → list_any (λ a. same_copy (number_named a.copy.value) (number_named name)) before ≡ false
  fresh_copy None before h = none_same before
  fresh_copy (Some name) before h = apart_copies name before h

  copied_once : (before : List DraftAuthoring) (d : DraftAuthoring) (copy : Option ℕ) → copy_from drafts before d ≡ Ok copy → (list_any (λ a. same_copy (number_named a.copy.value) (number_named d.copy.value)) before ≡ false) × (copy ≡ number_named d.copy.value)
  unfolding copy_from
  copied_once before d copy is = let n = named_copy before d.copy.place d.fields.value d.copy.value copy is in (fresh_copy d.copy.value before n.1, n.0)

  pub authoring_sound : (drafted : Placed (List DraftAuthoring)) (authoring : List Authoring) → each_within 128 (authoring_from drafts) drafted ≡ Ok authoring → AreAuthoring components authoring
  authoring_sound drafted authoring h =
      let few = few_made (authoring_from drafts) 128 drafted authoring h in
      record {
        few = few.0;
        names = distinct (authoring_from drafts) bytes_eq (λ d. d.name.value) (λ a. a.name) (λ before d a made. let m = authoring_made drafts before d a made in (m.fresh_name, m.name)) drafted.value authoring few.1;
        numbers = distinct (authoring_from drafts) nat_eq (λ d. d.number.value) (λ a. a.number) (λ before d a made. let m = authoring_made drafts before d a made in (m.fresh_number, m.number)) drafted.value authoring few.1;
        once = distinct (authoring_from drafts) same_copy (λ d. number_named d.copy.value) (λ a. a.copy) (λ before d a made. copied_once before d a.copy (authoring_made drafts before d a made).copy) drafted.value authoring few.1;
        fields = each_has (authoring_from drafts) (λ a. AreFields OfAuthoring a.fields) (λ before d a made. fields_sound OfAuthoring d.fields a.fields (authoring_made drafts before d a made).fields) [] drafted.value authoring few.1;
        copies = each_has (authoring_from drafts) (λ a. CopyMatches components a.fields a.copy)
            (λ before d a made. let m = authoring_made drafts before d a made in copy_sound before d a.fields a.copy m.copy m.fields) [] drafted.value authoring few.1;
      }

-- ---- the whole

pub schema_sound : (draft : Draft) (lists : Lists) → lists_from draft ≡ Ok lists → IsSchema (types_of lists)
unfolding lists_from
schema_sound draft lists h =
    let a = bound (fields_from OfAssets draft.assets) _ lists h in
    let b = bound (each_within 128 (authoring_from draft.components.value) draft.authoring) _ lists a.2 in
    let c = bound (each_within 128 component_from draft.components) _ lists b.2 in
    let same : record { assets = a.0; authoring = b.0; components = c.0 } ≡ lists = cc in
    let cs = components_sound draft.components c.0 c.1 in
    let made = few_made component_from 128 draft.components c.0 c.1 in
    subst (λ x. IsSchema (types_of x)) same (record {
      assets = fields_sound OfAssets draft.assets a.0 a.1;
      authoring = authoring_sound draft.components.value c.0 cs.numbers made.1 draft.authoring b.0 b.1;
      components = cs;
    })

plain_fields : (holder : Holder) → allows holder I64 ≡ true → AreFields holder (plain_field ∷ [])
unfolding IsDistinct
plain_fields holder allowed = record { few = omega arith; names = (tt, tt); kinds = (allowed, tt) }

pub plain_sound : IsSchema plain_types
unfolding plain_types IsDistinct
plain_sound = record {
  assets = record { few = omega arith; names = tt; kinds = tt };
  authoring = record { few = omega arith; names = (tt, tt); numbers = (tt, tt); once = (tt, tt); fields = (plain_fields OfAuthoring refl, tt); copies = (refl, tt) };
  components = record { few = omega arith; names = (tt, tt); numbers = (tt, tt); fields = (plain_fields OfComponent refl, tt) };
}
