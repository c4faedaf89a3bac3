-- What taking a number out of an ascending list does.
use Rattle.std.proofs.Common.{◌≡◌, subst, ℕ, zero, suc, ◌<◌, ◌≤◌, get_or, nat_lt, List, [], ◌∷◌, length, map, Bool, true, false, cond, nat_eq, Option, Some, None, true≢false, Result, Ok, Err, Ordering, Less, Equal, Greater, refl, sym, ap, ◌∙◌, arith}
use Rattle.std.specs.Prelude.{is_ok}
use Rattle.std.specs.List.{insert, remove}
use Rattle.std.specs.List.Sorted.{IsStrictlySortedBy, IsSorted, IsSearchInRange, IsBinarySearchResult}
use Rattle.std.specs.Ordering.{nat_cmp, match_ordering}
use Rattle.std.specs.Result.{MatchResult}
use Rattle.std.proofs.lemmas.Bool.Decides.{nat_tests}
use Rattle.std.proofs.lemmas.List.Folds.{list_any_at, list_any_none}
use Rattle.std.proofs.lemmas.List.Elements.{All-from_get_or}
use Rattle.std.proofs.lemmas.List.Sorted as lists
use Rattle.std.proofs.lemmas.List.Sorted.{IsNonDecreasingBy-from_sort}
use Rattle.eb_schema.specs.TypeOrder.{next, place_of}
use Rattle.eb_schema.proofs.SetFacts.{map_same}
use Rattle.eb_schema.proofs.TypeOrderFacts.{IsBelow, has_placed, put_at, put_at_place, same_with, searched, sorted_with}
use Rattle.eb_scene.specs.Projects.{is_parent}
use Rattle.eb_scene.specs.Tables.{changed_list}
use Rattle.eb_scene.specs.Numbers.{has_number, with_number, without_number}

-- the list without what was found
abbrev pub taken_at : Result ℕ ℕ → List ℕ → List ℕ
taken_at (Ok at) ns = remove ns at
taken_at (Err at) ns = ns

taken_next : (r : Result ℕ ℕ) (k : ℕ) (ks : List ℕ) → taken_at (next r) (k ∷ ks) ≡ k ∷ taken_at r ks
taken_next (Ok at) k ks = refl
taken_next (Err at) k ks = refl

-- a number below them all isn't there
none_to_take : (n : ℕ) (ks : List ℕ) → IsBelow n ks → without_number ks n ≡ ks
none_to_take n [] h = refl
none_to_take n (k ∷ ks) h =
    let other : nat_eq k n ≡ false = grind (arith, nat_tests, h.0) in
    ap (λ b. cond b ks (k ∷ without_number ks n)) other ∙ ap (λ js. k ∷ js) (none_to_take n ks h.1)

pub below_further : (j k : ℕ) (ks : List ℕ) → nat_cmp j k ≡ Less → IsBelow k ks → IsBelow j ks
below_further j k [] lt h = tt
below_further j k (l ∷ ks) lt h = (grind (arith, nat_tests, h.0), below_further j k ks lt h.1)

taken_where : (o : Ordering) (n k : ℕ) (ks : List ℕ) → nat_cmp n k ≡ o → IsBelow k ks → taken_at (place_of (λ j. j) n ks) ks ≡ without_number ks n
    → taken_at (match_ordering o (Err 0) (Ok 0) (next (place_of (λ j. j) n ks))) (k ∷ ks) ≡ cond (nat_eq k n) ks (k ∷ without_number ks n)
taken_where Less n k ks is above later =
    let other : nat_eq k n ≡ false = grind (arith, nat_tests) in
    sym (ap (λ b. cond b ks (k ∷ without_number ks n)) other ∙ ap (λ js. k ∷ js) (none_to_take n ks (below_further n k ks is above)))
taken_where Equal n k ks is above later =
    let same : nat_eq k n ≡ true = grind (arith, nat_tests) in
    sym (ap (λ b. cond b ks (k ∷ without_number ks n)) same)
taken_where Greater n k ks is above later =
    let other : nat_eq k n ≡ false = grind (arith, nat_tests) in
    taken_next (place_of (λ j. j) n ks) k ks ∙ ap (λ js. k ∷ js) later ∙ sym (ap (λ b. cond b ks (k ∷ without_number ks n)) other)

pub taken_at_place : (n : ℕ) (ks : List ℕ) → IsStrictlySortedBy nat_cmp ks → taken_at (place_of (λ j. j) n ks) ks ≡ without_number ks n
unfolding IsStrictlySortedBy
taken_at_place n [] h = refl
taken_at_place n (k ∷ ks) h = taken_where (nat_cmp n k) n k ks refl h.0 (taken_at_place n ks h.1)

-- ---- the order stays

below_cond : (j : ℕ) (b : Bool) (k : ℕ) (ks : List ℕ) (js : List ℕ) → nat_cmp j k ≡ Less → IsBelow j ks → IsBelow j js → IsBelow j (cond b ks (k ∷ js))
below_cond j true k ks js here rest later = rest
below_cond j false k ks js here rest later = (here, later)

below_without : (j n : ℕ) (ks : List ℕ) → IsBelow j ks → IsBelow j (without_number ks n)
below_without j n [] h = tt
below_without j n (k ∷ ks) h = below_cond j (nat_eq k n) k ks (without_number ks n) h.0 h.1 (below_without j n ks h.1)

sorted_cond : (b : Bool) (k : ℕ) (ks js : List ℕ) → IsStrictlySortedBy nat_cmp ks → IsBelow k js → IsStrictlySortedBy nat_cmp js → IsStrictlySortedBy nat_cmp (cond b ks (k ∷ js))
unfolding IsStrictlySortedBy
sorted_cond true k ks js rest below later = rest
sorted_cond false k ks js rest below later = (below, later)

pub sorted_without : (n : ℕ) (ks : List ℕ) → IsStrictlySortedBy nat_cmp ks → IsStrictlySortedBy nat_cmp (without_number ks n)
unfolding IsStrictlySortedBy
sorted_without n [] h = tt
sorted_without n (k ∷ ks) h = sorted_cond (nat_eq k n) k ks (without_number ks n) h.1 (below_without k n ks h.0) (sorted_without n ks h.1)

-- ---- what a search finds

as_numbers : (ks : List ℕ) → IsStrictlySortedBy nat_cmp ks → IsStrictlySortedBy nat_cmp (map (λ k. k) ks)
as_numbers ks h = subst (IsStrictlySortedBy nat_cmp) (sym (map_same ks)) h

pub found_place : (ks : List ℕ) (n : ℕ) (r : Result ℕ ℕ) → IsStrictlySortedBy nat_cmp ks → IsSearchInRange r (length ks) → IsBinarySearchResult (λ k. nat_cmp k n) ks r → r ≡ place_of (λ k. k) n ks
found_place ks n r sorted within is = searched (λ k. k) ks n r (as_numbers ks sorted) within is

pub sorted_with_number : (n : ℕ) (ks : List ℕ) → IsStrictlySortedBy nat_cmp ks → IsStrictlySortedBy nat_cmp (with_number ks n)
sorted_with_number n ks h = subst (IsStrictlySortedBy nat_cmp) (map_same (with_number ks n)) (sorted_with (λ k. k) n ks (as_numbers ks h))

-- an insert at the gap
pub put_gap : (ks : List ℕ) (n at : ℕ) → Err at ≡ place_of (λ k. k) n ks → insert ks at n ≡ with_number ks n
put_gap ks n at is = ap (λ r. put_at (λ k. k) r ks n) is ∙ put_at_place (λ k. k) n ks

-- a number that is there
pub put_found : (ks : List ℕ) (n at : ℕ) → Ok at ≡ place_of (λ k. k) n ks → ks ≡ with_number ks n
put_found ks n at is = sym (same_with n ks (ap is_ok (sym is)))

pub take_found : (ks : List ℕ) (n at : ℕ) → IsStrictlySortedBy nat_cmp ks → Ok at ≡ place_of (λ k. k) n ks → remove ks at ≡ without_number ks n
take_found ks n at sorted is = ap (λ r. taken_at r ks) is ∙ taken_at_place n ks sorted

pub take_gap : (ks : List ℕ) (n at : ℕ) → IsStrictlySortedBy nat_cmp ks → Err at ≡ place_of (λ k. k) n ks → ks ≡ without_number ks n
take_gap ks n at sorted is = ap (λ r. taken_at r ks) is ∙ taken_at_place n ks sorted

-- ---- a number that goes from one list to another

pub relisted_same : (b : Bool) (n : ℕ) (ks : List ℕ) → changed_list n b b ks ≡ ks
relisted_same true n ks = refl
relisted_same false n ks = refl

relisted_where : (a b : Bool) (n : ℕ) (ks : List ℕ) → (a ≡ true → b ≡ true → ⊥) → cond a (without_number (cond b (with_number ks n) ks) n) (cond b (with_number ks n) ks) ≡ changed_list n a b ks
relisted_where true true n ks apart = absurd (apart refl refl)
relisted_where true false n ks apart = refl
relisted_where false true n ks apart = refl
relisted_where false false n ks apart = refl

same_parents : (old new : Option ℕ) (q : ℕ) → is_parent old q ≡ true → is_parent new q ≡ true → old ≡ new
same_parents None new q a b = absurd (true≢false (sym a))
same_parents (Some o) None q a b = absurd (true≢false (sym b))
same_parents (Some o) (Some p) q a b = let same : o ≡ p = grind (arith, nat_tests) in ap (λ k. Some k) same

pub relisted : (old new : Option ℕ) (n q : ℕ) (ks : List ℕ) → (old ≡ new → ⊥)
    → cond (is_parent old q) (without_number (cond (is_parent new q) (with_number ks n) ks) n) (cond (is_parent new q) (with_number ks n) ks) ≡ changed_list n (is_parent old q) (is_parent new q) ks
relisted old new n q ks apart = relisted_where (is_parent old q) (is_parent new q) n ks (λ a b. apart (same_parents old new q a b))

-- whether a search finds one, where the list may have a number more than once
apart_where : (t : Bool) (k i x n : ℕ) → nat_lt k i ≡ t → (k < i → x < n) → (i ≤ k → n < x) → nat_eq x n ≡ false
apart_where true k i x n is before behind =
    let lt : k < i = grind (arith, nat_tests) in
    let less : x < n = before lt in
    grind (arith, nat_tests)
apart_where false k i x n is before behind =
    let le : i ≤ k = grind (arith, nat_tests) in
    let more : n < x = behind le in
    grind (arith, nat_tests)

any_where : (ks : List ℕ) (n : ℕ) (r : Result ℕ ℕ)
    → MatchResult r (λ i. (i < length ks) × (get_or ks i 0 ≡ n)) (λ i. (i ≤ length ks) × ((k : ℕ) → k < i → get_or ks k 0 < n) × ((k : ℕ) → i ≤ k → k < length ks → n < get_or ks k 0)) → is_ok r ≡ has_number ks n
any_where ks n (Ok i) h =
    let here : nat_eq (get_or ks i 0) n ≡ true = grind (arith, nat_tests, h.1) in
    sym (list_any_at (λ k. nat_eq k n) ks i 0 h.0 here)
any_where ks n (Err i) h =
    sym (list_any_none (λ k. nat_eq k n) ks (All-from_get_or (λ k. nat_eq k n ≡ false) ks 0 (λ k lt. apart_where (nat_lt k i) k i (get_or ks k 0) n refl (λ b. h.1 k b) (λ b. h.2 k b lt))))

pub any_found : (ks : List ℕ) (n : ℕ) (r : Result ℕ ℕ) → IsBinarySearchResult (λ k. nat_cmp k n) ks r → IsSorted nat_cmp ks → is_ok r ≡ has_number ks n
any_found ks n r is sorted = any_where ks n r (lists.searched ks n r is (λ i j le lt. IsNonDecreasingBy-from_sort (λ k. k) ks sorted i j 0 le lt))
