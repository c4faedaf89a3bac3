-- The components of an object, put in any order, make the ascending list that they come from.
use Rattle.std.proofs.Common.{◌≡◌, ℕ, suc, ◌+◌, ◌≤◌, List, [], ◌∷◌, length, map, Bool, true, false, cond, nat_eq, is_some, Option, Some, None, Ordering, Less, Equal, Greater, refl, sym, ap, subst, ◌∙◌, true≢false, arith}
use Rattle.std.specs.Prelude.{◌||◌}
use Rattle.std.specs.BTreeMap.{insert_entry}
use Rattle.std.specs.List.{AllByRecursion, list_any}
use Rattle.std.specs.List.Sorted.{IsStrictlySortedBy}
use Rattle.std.specs.Ordering.{nat_cmp, match_ordering}
use Rattle.std.specs.Cmp.Lexicographic.{slice_cmp}
use Rattle.std.proofs.lemmas.Bool.Decides.{nat_tests}
use Rattle.std.proofs.lemmas.Map.Lookups.{exact_bytes}
use Rattle.eb_schema.specs.Rows.{with_item}
use Rattle.eb_schema.proofs.RowLaws.{found_with}
use Rattle.eb_schema.proofs.TypeOrderFacts.{IsBelow, any_found, sorted_with}
use Rattle.eb_scene.specs.declared.objects.Part.{Part}
use Rattle.eb_scene.specs.Projects.{part_of}
use Rattle.eb_scene.specs.Rebuilding.{with_names, by_key}
use Rattle.eb_scene.proofs.NumberFacts.{below_further}
use Rattle.eb_scene.proofs.ValidObjects.{none_ordered}
use Rattle.eb_scene.proofs.ValidComponents.{kinds, absent_below}

-- ---- components in order of their keys

module _ {Y : Type 0} (key : Part → List ℕ) (value : Part → Y) where
  abbrev pub insert_part : List Part → Part → List Part
  insert_part [] p = p ∷ []
  insert_part (u ∷ us) p = match_ordering (slice_cmp nat_cmp (key p) (key u)) (p ∷ u ∷ us) (p ∷ us) (u ∷ insert_part us p)

  -- these components put in one after another
  abbrev pub in_order : List Part → List Part → List Part
  in_order us [] = us
  in_order us (p ∷ ps) = in_order (insert_part us p) ps

  abbrev keyed : Part → List ℕ × Y
  keyed p = (key p, value p)

  keyed_where : (c : Ordering) (p u : Part) (us : List Part) → slice_cmp nat_cmp (key p) (key u) ≡ c → insert_entry (slice_cmp nat_cmp) (map keyed us) (key p) (value p) ≡ map keyed (insert_part us p)
      → match_ordering c ((key p, value p) ∷ keyed u ∷ map keyed us) ((key u, value p) ∷ map keyed us) (keyed u ∷ insert_entry (slice_cmp nat_cmp) (map keyed us) (key p) (value p))
      ≡ map keyed (match_ordering c (p ∷ u ∷ us) (p ∷ us) (u ∷ insert_part us p))
  keyed_where Less p u us is later = refl
  keyed_where Equal p u us is later = ap (λ k. (k, value p) ∷ map keyed us) (sym (exact_bytes (key p) (key u) is))
  keyed_where Greater p u us is later = ap (λ es. keyed u ∷ es) later

  keyed_insert : (us : List Part) (p : Part) → insert_entry (slice_cmp nat_cmp) (map keyed us) (key p) (value p) ≡ map keyed (insert_part us p)
  keyed_insert [] p = refl
  keyed_insert (u ∷ us) p = keyed_where (slice_cmp nat_cmp (key p) (key u)) p u us refl (keyed_insert us p)

  keyed_order : (us ps : List Part) → with_names (map keyed us) (map keyed ps) ≡ map keyed (in_order us ps)
  keyed_order us [] = refl
  keyed_order us (p ∷ ps) = ap (λ es. with_names es (map keyed ps)) (keyed_insert us p) ∙ keyed_order (insert_part us p) ps

  pub by_key_order : (ps : List Part) → by_key (map keyed ps) ≡ map keyed (in_order [] ps)
  by_key_order ps = keyed_order [] ps

  -- ---- what holds of each, and how many they are

  all_insert_where : (P : Part → Type 0) (c : Ordering) (p u : Part) (us : List Part) → P p → P u → AllByRecursion P us → AllByRecursion P (insert_part us p)
      → AllByRecursion P (match_ordering c (p ∷ u ∷ us) (p ∷ us) (u ∷ insert_part us p))
  all_insert_where P Less p u us here top rest later = (here, (top, rest))
  all_insert_where P Equal p u us here top rest later = (here, rest)
  all_insert_where P Greater p u us here top rest later = (top, later)

  all_insert : (P : Part → Type 0) (us : List Part) (p : Part) → P p → AllByRecursion P us → AllByRecursion P (insert_part us p)
  all_insert P [] p here all = (here, tt)
  all_insert P (u ∷ us) p here all = all_insert_where P (slice_cmp nat_cmp (key p) (key u)) p u us here all.0 all.1 (all_insert P us p here all.1)

  pub all_order : (P : Part → Type 0) (us ps : List Part) → AllByRecursion P us → AllByRecursion P ps → AllByRecursion P (in_order us ps)
  all_order P us [] all more = all
  all_order P us (p ∷ ps) all more = all_order P (insert_part us p) ps (all_insert P us p more.0 all) more.1

  count_insert_where : (c : Ordering) (p u : Part) (us : List Part) → length (insert_part us p) ≤ suc (length us) → length (match_ordering c (p ∷ u ∷ us) (p ∷ us) (u ∷ insert_part us p)) ≤ suc (suc (length us))
  count_insert_where Less p u us later = omega arith
  count_insert_where Equal p u us later = omega arith
  count_insert_where Greater p u us later = omega (arith, later)

  count_insert : (us : List Part) (p : Part) → length (insert_part us p) ≤ suc (length us)
  count_insert [] p = omega arith
  count_insert (u ∷ us) p = count_insert_where (slice_cmp nat_cmp (key p) (key u)) p u us (count_insert us p)

  pub count_order : (us ps : List Part) → length (in_order us ps) ≤ length us + length ps
  count_order us [] = omega arith
  count_order us (p ∷ ps) = let more = count_insert us p in let later = count_order (insert_part us p) ps in omega (arith, more, later)

  -- ---- which kinds there are

  module _ (P : Part → Type 0) (exact : (p u : Part) → P p → P u → key p ≡ key u → p.kind ≡ u.kind) (k : ℕ) where
    abbrev has : List Part → Bool
    has us = list_any (λ p. nat_eq p.kind k) us

    twice : (a b c : Bool) → a ≡ b → (a || c) ≡ (a || (b || c))
    twice true b c h = refl
    twice false true c h = absurd (true≢false (sym h))
    twice false false c h = refl

    swapped : (a b c : Bool) → (b || (a || c)) ≡ (a || (b || c))
    swapped true true c = refl
    swapped true false c = refl
    swapped false b c = refl

    has_insert_where : (c : Ordering) (p u : Part) (us : List Part) → slice_cmp nat_cmp (key p) (key u) ≡ c → P p → P u → has (insert_part us p) ≡ (nat_eq p.kind k || has us)
        → has (match_ordering c (p ∷ u ∷ us) (p ∷ us) (u ∷ insert_part us p)) ≡ (nat_eq p.kind k || (nat_eq u.kind k || has us))
    has_insert_where Less p u us is here top later = refl
    has_insert_where Equal p u us is here top later =
        let same : p.kind ≡ u.kind = exact p u here top (exact_bytes (key p) (key u) is) in
        twice (nat_eq p.kind k) (nat_eq u.kind k) (has us) (ap (λ j. nat_eq j k) same)
    has_insert_where Greater p u us is here top later = ap (λ b. nat_eq u.kind k || b) later ∙ swapped (nat_eq p.kind k) (nat_eq u.kind k) (has us)

    has_insert : (us : List Part) (p : Part) → P p → AllByRecursion P us → has (insert_part us p) ≡ (nat_eq p.kind k || has us)
    has_insert [] p here all = refl
    has_insert (u ∷ us) p here all = has_insert_where (slice_cmp nat_cmp (key p) (key u)) p u us refl here all.0 (has_insert us p here all.1)

    moved : (a b c : Bool) → ((a || b) || c) ≡ (b || (a || c))
    moved true true c = refl
    moved true false c = refl
    moved false b c = refl

    none_more : (b : Bool) → b ≡ (b || false)
    none_more true = refl
    none_more false = refl

    pub has_order : (us ps : List Part) → AllByRecursion P us → AllByRecursion P ps → has (in_order us ps) ≡ (has us || has ps)
    has_order us [] all more = none_more (has us)
    has_order us (p ∷ ps) all more =
        has_order (insert_part us p) ps (all_insert P us p more.0 all) more.1 ∙ ap (λ b. b || has ps) (has_insert us p more.0 all) ∙ moved (nat_eq p.kind k) (has us) (has ps)

-- ---- components put one after another

abbrev pub put_all : List Part → List Part → List Part
put_all us [] = us
put_all us (p ∷ ps) = put_all (with_item (λ q. q.kind) p us) ps

put_order : (us ps : List Part) → IsStrictlySortedBy nat_cmp (kinds us) → IsStrictlySortedBy nat_cmp (kinds (put_all us ps))
put_order us [] sorted = sorted
put_order us (p ∷ ps) sorted = put_order (with_item (λ q. q.kind) p us) ps (sorted_with (λ q. q.kind) p us sorted)

-- the last one of a kind, or else this one
abbrev latest_part : ℕ → List Part → Option Part → Option Part
latest_part k [] r = r
latest_part k (p ∷ ps) r = latest_part k ps (cond (nat_eq p.kind k) (Some p) r)

put_latest : (k : ℕ) (us ps : List Part) → part_of (put_all us ps) k ≡ latest_part k ps (part_of us k)
put_latest k us [] = refl
put_latest k us (p ∷ ps) = put_latest k (with_item (λ q. q.kind) p us) ps ∙ ap (latest_part k ps) (found_with (λ q. q.kind) p k us)

some_where : (b : Bool) (p : Part) (r : Option Part) (rest : Bool) → (rest || is_some (cond b (Some p) r)) ≡ ((b || rest) || is_some r)
some_where true p r true = refl
some_where true p r false = refl
some_where false p r rest = refl

some_latest : (k : ℕ) (ps : List Part) (r : Option Part) → is_some (latest_part k ps r) ≡ (list_any (λ p. nat_eq p.kind k) ps || is_some r)
some_latest k [] r = refl
some_latest k (p ∷ ps) r = some_latest k ps (cond (nat_eq p.kind k) (Some p) r) ∙ some_where (nat_eq p.kind k) p r (list_any (λ q. nat_eq q.kind k) ps)

from_where : (b : Bool) (k : ℕ) (whole : List Part) (p q : Part) (r : Option Part) → nat_eq p.kind k ≡ b → part_of whole p.kind ≡ Some p → (r ≡ Some q → part_of whole k ≡ Some q) → cond b (Some p) r ≡ Some q → part_of whole k ≡ Some q
from_where true k whole p q r is here old h =
    let kind : p.kind ≡ k = grind (arith, nat_tests) in
    let same : Some p ≡ Some q = h in
    ap (part_of whole) (sym kind) ∙ here ∙ same
from_where false k whole p q r is here old h = old h

latest_from : (k : ℕ) (whole ps : List Part) (r : Option Part) (q : Part) → AllByRecursion (λ p. part_of whole p.kind ≡ Some p) ps → (r ≡ Some q → part_of whole k ≡ Some q) → latest_part k ps r ≡ Some q → part_of whole k ≡ Some q
latest_from k whole [] r q all old h = old h
latest_from k whole (p ∷ ps) r q all old h = latest_from k whole ps (cond (nat_eq p.kind k) (Some p) r) q all.1 (from_where (nat_eq p.kind k) k whole p q r refl all.0 old) h

-- ---- ascending lists of which each part is the same

absent_of : (k : ℕ) (x : Part) (xs : List Part) → nat_eq x.kind k ≡ true → IsBelow x.kind (kinds xs) → part_of xs k ≡ None
absent_of k x xs is below = let same : x.kind ≡ k = grind (arith, nat_tests) in absent_below k xs (subst (λ j. IsBelow j (kinds xs)) same below)

top_of : (x : Part) (xs : List Part) → part_of (x ∷ xs) x.kind ≡ Some x
top_of x xs = let itself : nat_eq x.kind x.kind ≡ true = grind (arith, nat_tests) in ap (λ b. cond b (Some x) (part_of xs x.kind)) itself

tail_where : (a b : Bool) (k : ℕ) (x y : Part) (xs ys : List Part) → nat_eq x.kind k ≡ a → nat_eq y.kind k ≡ b → x ≡ y → IsBelow x.kind (kinds xs) → IsBelow y.kind (kinds ys)
    → cond a (Some x) (part_of xs k) ≡ cond b (Some y) (part_of ys k) → part_of xs k ≡ part_of ys k
tail_where true true k x y xs ys p q same below also h = absent_of k x xs p below ∙ sym (absent_of k y ys q also)
tail_where true false k x y xs ys p q same below also h = absurd (true≢false (sym p ∙ ap (λ z. nat_eq z.kind k) same ∙ q))
tail_where false true k x y xs ys p q same below also h = absurd (true≢false (sym q ∙ ap (λ z. nat_eq z.kind k) (sym same) ∙ p))
tail_where false false k x y xs ys p q same below also h = h

same_where : (c : Ordering) (x y : Part) (xs ys : List Part) → nat_cmp x.kind y.kind ≡ c → IsBelow x.kind (kinds xs) → IsBelow y.kind (kinds ys) → ((k : ℕ) → part_of (x ∷ xs) k ≡ part_of (y ∷ ys) k)
    → (((k : ℕ) → part_of xs k ≡ part_of ys k) → xs ≡ ys) → x ∷ xs ≡ y ∷ ys
same_where Less x y xs ys is below also h later =
    let none_ : part_of (y ∷ ys) x.kind ≡ None = absent_below x.kind (y ∷ ys) (is, below_further x.kind y.kind (kinds ys) is also) in
    let both : Some x ≡ None = sym (top_of x xs) ∙ h x.kind ∙ none_ in
    cc
same_where Equal x y xs ys is below also h later =
    let kind : y.kind ≡ x.kind = grind (arith, nat_tests) in
    let both : Some x ≡ Some y = sym (top_of x xs) ∙ h x.kind ∙ ap (part_of (y ∷ ys)) (sym kind) ∙ top_of y ys in
    let same : x ≡ y = cc in
    ap (λ z. z ∷ xs) same ∙ ap (λ zs. y ∷ zs) (later (λ k. tail_where (nat_eq x.kind k) (nat_eq y.kind k) k x y xs ys refl refl same below also (h k)))
same_where Greater x y xs ys is below also h later =
    let less : nat_cmp y.kind x.kind ≡ Less = grind (arith, nat_tests) in
    let none_ : part_of (x ∷ xs) y.kind ≡ None = absent_below y.kind (x ∷ xs) (less, below_further y.kind x.kind (kinds xs) less below) in
    let both : Some y ≡ None = sym (top_of y ys) ∙ sym (h y.kind) ∙ none_ in
    cc

same_parts : (xs ys : List Part) → IsStrictlySortedBy nat_cmp (kinds xs) → IsStrictlySortedBy nat_cmp (kinds ys) → ((k : ℕ) → part_of xs k ≡ part_of ys k) → xs ≡ ys
unfolding IsStrictlySortedBy
same_parts [] [] s t h = refl
same_parts [] (y ∷ ys) s t h = let both : None ≡ Some y = h y.kind ∙ top_of y ys in cc
same_parts (x ∷ xs) [] s t h = let both : None ≡ Some x = sym (h x.kind) ∙ top_of x xs in cc
same_parts (x ∷ xs) (y ∷ ys) s t h = same_where (nat_cmp x.kind y.kind) x y xs ys refl s.0 t.0 h (λ g. same_parts xs ys s.1 t.1 g)

-- each is found by its own kind
found_more : (x : Part) (xs ys : List Part) → IsBelow x.kind (kinds ys) → AllByRecursion (λ p. part_of xs p.kind ≡ Some p) ys → AllByRecursion (λ p. part_of (x ∷ xs) p.kind ≡ Some p) ys
found_more x xs [] below all = tt
found_more x xs (y ∷ ys) below all =
    let apart : nat_eq x.kind y.kind ≡ false = grind (arith, nat_tests, below.0) in
    (ap (λ b. cond b (Some x) (part_of xs y.kind)) apart ∙ all.0, found_more x xs ys below.1 all.1)

each_found : (xs : List Part) → IsStrictlySortedBy nat_cmp (kinds xs) → AllByRecursion (λ p. part_of xs p.kind ≡ Some p) xs
unfolding IsStrictlySortedBy
each_found [] sorted = tt
each_found (x ∷ xs) sorted = (top_of x xs, found_more x xs xs sorted.0 (each_found xs sorted.1))

last_where : (r s : Option Part) → is_some r ≡ is_some s → ((q : Part) → r ≡ Some q → s ≡ Some q) → r ≡ s
last_where None None same h = refl
last_where None (Some p) same h = absurd (true≢false (sym same))
last_where (Some q) s same h = sym (h q refl)

-- an ascending list is what its components make, put in the order of their keys
pub put_in_order : {Y : Type 0} (key : Part → List ℕ) (value : Part → Y) (P : Part → Type 0) → ((p u : Part) → P p → P u → key p ≡ key u → p.kind ≡ u.kind)
    → (ps : List Part) → AllByRecursion P ps → IsStrictlySortedBy nat_cmp (kinds ps) → put_all [] (in_order key value [] ps) ≡ ps
put_in_order key value P exact ps all sorted =
    let qs : List Part = in_order key value [] ps in
    same_parts (put_all [] qs) ps (put_order [] qs none_ordered) sorted
    (λ k.
    put_latest k [] qs
    ∙ last_where (latest_part k qs None) (part_of ps k)
    (some_latest k qs None ∙ ap (λ b. b || false) (has_order key value P exact k [] ps tt all) ∙ both_none (list_any (λ p. nat_eq p.kind k) ps) ∙ any_found (λ q. q.kind) (λ p. nat_eq p.kind k) ps)
    (λ q h. latest_from k ps qs None q (all_order key value (λ p. part_of ps p.kind ≡ Some p) [] ps tt (each_found ps sorted)) (λ g. let bad : None ≡ Some q = g in cc) h))
  where
    both_none : (b : Bool) → (b || false) ≡ b
    both_none true = refl
    both_none false = refl
