-- Values that were written, in any order of the names, are read as they were.
use Rattle.std.proofs.Common.{◌≡◌, ℕ, ◌+◌, List, [], ◌∷◌, map, Bool, true, false, cond, not, Option, Some, None, Ok, Err, Ordering, Less, Equal, Greater, refl, sym, ap, ◌∙◌, true≢false, if◌then◌else◌}
use Rattle.std.specs.Prelude.{◌||◌, find, option_map, bytes_eq}
use Rattle.std.specs.Map.{lookup}
use Rattle.std.specs.BTreeMap.{insert_entry}
use Rattle.std.specs.List.{AllByRecursion, IsDistinct, list_any}
use Rattle.std.specs.Ordering.{nat_cmp, match_ordering}
use Rattle.std.specs.Cmp.{tied_itself}
use Rattle.std.specs.Cmp.Lexicographic.{slice_cmp, nat_list_cmp_total}
use Rattle.std.proofs.lemmas.Bool.{or_left, or_right}
use Rattle.std.proofs.lemmas.Cmp.{nat_list_eq_equiv}
use Rattle.std.proofs.lemmas.Map.Lookups.{exact_bytes}
use Rattle.std.proofs.lemmas.Slice.Eq.{bytes_eq-Decides}
use Rattle.eb_schema.specs.declared.kinds.Kind.{Kind}
use Rattle.eb_schema.specs.declared.kinds.Kind.TheVariants.{I8, I16, I32, I64, Fix, Ref, Asset}
use Rattle.eb_schema.specs.declared.kinds.Field.{Field}
use Rattle.eb_scene.specs.declared.objects.Given.{Given}
use Rattle.eb_scene.specs.declared.objects.Given.TheVariants as given
use Rattle.eb_scene.specs.declared.edits.Raw.{Raw}
use Rattle.eb_scene.specs.declared.edits.RawField.{RawField}
use Rattle.eb_scene.specs.declared.edits.EditFault.TheVariants as fault
use Rattle.eb_scene.specs.Fits.{fitting, value_of, written, before, values_from, has_field, fitted}
use Rattle.eb_scene.specs.Validity.{suits, Suit}
use Rattle.eb_scene.specs.Rebuilding.{written_as, named_values, raw_field, with_names, by_key, written_fields}

-- ---- one value

written_fits : (kind : Kind) (v : Given) → suits kind v ≡ true → fitting kind (written_as kind v) ≡ Some v
written_fits I8 (given.Num z) h = ap (λ b. cond b (Some (given.Num z)) None) h
written_fits I16 (given.Num z) h = ap (λ b. cond b (Some (given.Num z)) None) h
written_fits I32 (given.Num z) h = ap (λ b. cond b (Some (given.Num z)) None) h
written_fits I64 (given.Num z) h = ap (λ b. cond b (Some (given.Num z)) None) h
written_fits Fix (given.Num z) h = ap (λ b. cond b (Some (given.Num z)) None) h
written_fits Ref (given.Object n) h = ap (λ b. cond b (Some (given.Object n)) None) h
written_fits Ref given.Null h = refl
written_fits Asset (given.Asset n) h = ap (λ b. cond b (Some (given.Asset n)) None) h
written_fits Asset given.Null h = refl
written_fits kind value h = absurd (true≢false (sym h))

-- ---- things under names

same_name : (a b : List ℕ) → bytes_eq a b ≡ true → a ≡ b
same_name a b h = (bytes_eq-Decides a b).0 h

no_name_twice : (k e name : List ℕ) → slice_cmp nat_cmp k e ≡ Greater → bytes_eq name k ≡ true → bytes_eq name e ≡ true → ⊥
no_name_twice k e name more p q =
    let same : k ≡ e = sym (same_name name k p) ∙ same_name name e q in
    let equal : slice_cmp nat_cmp k e ≡ Equal = ap (slice_cmp nat_cmp k) (sym same) ∙ tied_itself nat_list_cmp_total k in
    let both : Greater ≡ Equal = sym more ∙ equal in
    cc

module _ {X : Type 0} where
  same_test : (a b : Bool) (x y : X) (r : Option X) → a ≡ b → cond b (Some x) r ≡ cond a (Some x) (cond b (Some y) r)
  same_test true true x y r is = refl
  same_test true false x y r is = absurd (true≢false is)
  same_test false true x y r is = absurd (true≢false (sym is))
  same_test false false x y r is = refl

  other_test : (a b : Bool) (x y : X) (r : Option X) → (a ≡ true → b ≡ true → ⊥) → cond b (Some y) (cond a (Some x) r) ≡ cond a (Some x) (cond b (Some y) r)
  other_test true true x y r apart = absurd (apart refl refl)
  other_test true false x y r apart = refl
  other_test false b x y r apart = refl

  -- the last thing of a name in a list, or else this one
  abbrev pub latest : List ℕ → List (List ℕ × X) → Option X → Option X
  latest name [] r = r
  latest name (y ∷ ys) r = latest name ys (cond (bytes_eq name y.0) (Some y.1) r)

  put_name_where : (c : Ordering) (name : List ℕ) (e : List ℕ × X) (es : List (List ℕ × X)) (k : List ℕ) (v : X) → slice_cmp nat_cmp k e.0 ≡ c
      → lookup (bytes_eq name) (insert_entry (slice_cmp nat_cmp) es k v) ≡ cond (bytes_eq name k) (Some v) (lookup (bytes_eq name) es)
      → lookup (bytes_eq name) (match_ordering c ((k, v) ∷ e ∷ es) ((e.0, v) ∷ es) (e ∷ insert_entry (slice_cmp nat_cmp) es k v)) ≡ cond (bytes_eq name k) (Some v) (lookup (bytes_eq name) (e ∷ es))
  put_name_where Less name e es k v is later = refl
  put_name_where Equal name e es k v is later = same_test (bytes_eq name k) (bytes_eq name e.0) v e.1 (lookup (bytes_eq name) es) (ap (bytes_eq name) (exact_bytes k e.0 is))
  put_name_where Greater name e es k v is later =
      ap (cond (bytes_eq name e.0) (Some e.1)) later
      ∙ other_test (bytes_eq name k) (bytes_eq name e.0) v e.1 (lookup (bytes_eq name) es) (no_name_twice k e.0 name is)

  put_name : (name : List ℕ) (es : List (List ℕ × X)) (k : List ℕ) (v : X) → lookup (bytes_eq name) (insert_entry (slice_cmp nat_cmp) es k v) ≡ cond (bytes_eq name k) (Some v) (lookup (bytes_eq name) es)
  put_name name [] k v = refl
  put_name name (e ∷ es) k v = put_name_where (slice_cmp nat_cmp k e.0) name e es k v refl (put_name name es k v)

  names_latest : (name : List ℕ) (xs ys : List (List ℕ × X)) → lookup (bytes_eq name) (with_names xs ys) ≡ latest name ys (lookup (bytes_eq name) xs)
  names_latest name xs [] = refl
  names_latest name xs (y ∷ ys) = names_latest name (insert_entry (slice_cmp nat_cmp) xs y.0 y.1) ys ∙ ap (latest name ys) (put_name name xs y.0 y.1)

  latest_absent : (name : List ℕ) (ys : List (List ℕ × X)) (r : Option X) → AllByRecursion (λ y. bytes_eq name y.0 ≡ false) ys → latest name ys r ≡ r
  latest_absent name [] r all = refl
  latest_absent name (y ∷ ys) r all = ap (λ b. latest name ys (cond b (Some y.1) r)) all.0 ∙ latest_absent name ys r all.1

  -- what holds of all names that are put in holds of all
  all_put_where : (P : List ℕ → Type 0) (c : Ordering) (e : List ℕ × X) (es : List (List ℕ × X)) (k : List ℕ) (v : X) → P k → P e.0 → AllByRecursion (λ x. P x.0) es
      → AllByRecursion (λ x. P x.0) (insert_entry (slice_cmp nat_cmp) es k v) → AllByRecursion (λ x. P x.0) (match_ordering c ((k, v) ∷ e ∷ es) ((e.0, v) ∷ es) (e ∷ insert_entry (slice_cmp nat_cmp) es k v))
  all_put_where P Less e es k v here top rest later = (here, (top, rest))
  all_put_where P Equal e es k v here top rest later = (top, rest)
  all_put_where P Greater e es k v here top rest later = (top, later)

  all_put : (P : List ℕ → Type 0) (es : List (List ℕ × X)) (k : List ℕ) (v : X) → P k → AllByRecursion (λ x. P x.0) es → AllByRecursion (λ x. P x.0) (insert_entry (slice_cmp nat_cmp) es k v)
  all_put P [] k v here all = (here, tt)
  all_put P (e ∷ es) k v here all = all_put_where P (slice_cmp nat_cmp k e.0) e es k v here all.0 all.1 (all_put P es k v here all.1)

  all_names : (P : List ℕ → Type 0) (xs ys : List (List ℕ × X)) → AllByRecursion (λ x. P x.0) xs → AllByRecursion (λ x. P x.0) ys → AllByRecursion (λ x. P x.0) (with_names xs ys)
  all_names P xs [] all more = all
  all_names P xs (y ∷ ys) all more = all_names P (insert_entry (slice_cmp nat_cmp) xs y.0 y.1) ys (all_put P xs y.0 y.1 more.0 all) more.1

-- ---- the values of fields under their names

found_where : (b : Bool) (e : List ℕ × Raw) (r : Option RawField) (s : Option Raw) → option_map (λ x. x.value) r ≡ s → option_map (λ x. x.value) (cond b (Some (raw_field e)) r) ≡ cond b (Some e.1) s
found_where true e r s later = refl
found_where false e r s later = later

written_found : (name : List ℕ) (es : List (List ℕ × Raw)) → written (map raw_field es) name ≡ lookup (bytes_eq name) es
written_found name [] = refl
written_found name (e ∷ es) = found_where (bytes_eq name e.0) e (find (λ r. bytes_eq name r.name) (map raw_field es)) (lookup (bytes_eq name) es) (written_found name es)

-- each value is what is read under its field's name
abbrev Written : (List ℕ → Option Raw) → List Field → List Given → Type 0
Written get [] vs = Unit {0}
Written get (f ∷ fs) [] = Unit {0}
Written get (f ∷ fs) (v ∷ vs) = (get f.name ≡ Some (written_as f.kind v)) × Written get fs vs

apart_names : (name : List ℕ) (fs : List Field) (vs : List Given) → AllByRecursion (λ k. bytes_eq name k ≡ false) (map (λ f. f.name) fs) → AllByRecursion (λ y. bytes_eq name y.0 ≡ false) (named_values fs vs)
apart_names name [] vs all = tt
apart_names name (f ∷ fs) [] all = tt
apart_names name (f ∷ fs) (v ∷ vs) all = (all.0, apart_names name fs vs all.1)

named_latest : (fs : List Field) (vs : List Given) (r : List ℕ → Option Raw) → IsDistinct bytes_eq (map (λ f. f.name) fs) → Written (λ name. latest name (named_values fs vs) (r name)) fs vs
unfolding IsDistinct
named_latest [] vs r distinct = tt
named_latest (f ∷ fs) [] r distinct = tt
named_latest (f ∷ fs) (v ∷ vs) r distinct =
    let w : Raw = written_as f.kind v in (
      ap (λ b. latest f.name (named_values fs vs) (cond b (Some w) (r f.name))) (nat_list_eq_equiv.refl f.name) ∙ latest_absent f.name (named_values fs vs) (Some w) (apart_names f.name fs vs distinct.0),
      named_latest fs vs (λ name. cond (bytes_eq name f.name) (Some w) (r name)) distinct.1,
    )

written_alike : (get other : List ℕ → Option Raw) → ((name : List ℕ) → get name ≡ other name) → (fs : List Field) (vs : List Given) → Written other fs vs → Written get fs vs
written_alike get other same [] vs all = tt
written_alike get other same (f ∷ fs) [] all = tt
written_alike get other same (f ∷ fs) (v ∷ vs) all = (same f.name ∙ all.0, written_alike get other same fs vs all.1)

values_back : (i : ℕ) (fs : List Field) (vs : List Given) (raws : List RawField) → Written (written raws) fs vs → Suit fs vs → values_from i fs raws ≡ Ok vs
values_back i [] [] raws all suit = refl
values_back i [] (v ∷ vs) raws all suit = absurd suit
values_back i (f ∷ fs) [] raws all suit = absurd suit
values_back i (f ∷ fs) (v ∷ vs) raws all suit =
    ap (λ o. before i o (values_from (i + 1) fs raws)) (ap (value_of f.kind) all.0 ∙ written_fits f.kind v suit.0)
    ∙ ap (before i (Some v)) (values_back (i + 1) fs vs raws all.1 suit.1)

-- ---- no other names

all_more : (f : Field) (fs gs : List Field) → AllByRecursion (λ g. has_field fs g.name ≡ true) gs → AllByRecursion (λ g. has_field (f ∷ fs) g.name ≡ true) gs
all_more f fs [] all = tt
all_more f fs (g ∷ gs) all = (or_right (bytes_eq g.name f.name) (has_field fs g.name) all.0, all_more f fs gs all.1)

each_field : (fs : List Field) → AllByRecursion (λ g. has_field fs g.name ≡ true) fs
each_field [] = tt
each_field (f ∷ fs) = (or_left (bytes_eq f.name f.name) (has_field fs f.name) (nat_list_eq_equiv.refl f.name), all_more f fs fs (each_field fs))

named_fields : (all fs : List Field) (vs : List Given) → AllByRecursion (λ g. has_field all g.name ≡ true) fs → AllByRecursion (λ e. has_field all e.0 ≡ true) (named_values fs vs)
named_fields all [] vs h = tt
named_fields all (f ∷ fs) [] h = tt
named_fields all (f ∷ fs) (v ∷ vs) h = (h.0, named_fields all fs vs h.1)

none_other : (fields : List Field) (es : List (List ℕ × Raw)) → AllByRecursion (λ e. has_field fields e.0 ≡ true) es → list_any (λ r. not (has_field fields r.name)) (map raw_field es) ≡ false
none_other fields [] all = refl
none_other fields (e ∷ es) all = ap (λ b. not b || list_any (λ r. not (has_field fields r.name)) (map raw_field es)) all.0 ∙ none_other fields es all.1

-- what was written is what is read
pub written_back : (fields : List Field) (values : List Given) → IsDistinct bytes_eq (map (λ f. f.name) fields) → Suit fields values → fitted fields (written_fields fields values) ≡ Ok values
written_back fields values distinct suit =
    let raws : List RawField = written_fields fields values in
    let known = none_other fields (by_key (named_values fields values)) (all_names (λ name. has_field fields name ≡ true) [] (named_values fields values) tt (named_fields fields fields values (each_field fields))) in
    let read : ((name : List ℕ) → written raws name ≡ latest name (named_values fields values) None) = (λ name. written_found name (by_key (named_values fields values)) ∙ names_latest name [] (named_values fields values)) in
    ap (λ b. if b then Err fault.NoField else values_from 0 fields raws) known
    ∙ values_back 0 fields values raws (written_alike (written raws) (λ name. latest name (named_values fields values) None) read fields values (named_latest fields values (λ name. None) distinct)) suit
