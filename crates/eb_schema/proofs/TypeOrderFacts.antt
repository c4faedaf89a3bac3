-- Where an item of a number stands in an ascending list, and what putting one there does.
use Rattle.std.proofs.Common.{◌≡◌, ℕ, zero, suc, ◌<◌, ◌≤◌, List, [], ◌∷◌, length, map, get_or, Bool, true, false, cond, nat_eq, Option, Some, None, Result, Ok, Err, Ordering, Less, Equal, Greater, refl, sym, ap, ◌∙◌, inl, inr, true≢false, arith}
use Rattle.std.specs.Prelude.{◌||◌, is_some, is_ok, slice_get, slice_set, find}
use Rattle.std.specs.List.{insert, list_any, AllByRecursion}
use Rattle.std.specs.List.Sorted.{IsStrictlySortedBy, IsSearchInRange, IsBinarySearchResult, IsNonDecreasingBy}
use Rattle.std.specs.Ordering.{nat_cmp, match_ordering, ordering_index}
use Rattle.std.proofs.lemmas.Bool.Decides.{nat_tests}
use Rattle.std.proofs.lemmas.Bool.{cases_lt}
use Rattle.eb_schema.specs.TypeOrder.{next, place_of}
use Rattle.eb_schema.specs.Rows.{with_item}

greater : (j k : ℕ) → nat_cmp j k ≡ Less → nat_cmp k j ≡ Greater
greater j k h = grind (arith, nat_tests)

less : (j k : ℕ) → nat_cmp j k ≡ Greater → nat_cmp k j ≡ Less
less j k h = grind (arith, nat_tests)

equal : (j k : ℕ) → nat_cmp j k ≡ Equal → nat_cmp k j ≡ Equal
equal j k h = grind (arith, nat_tests)

-- j is below all of these
abbrev pub IsBelow : ℕ → List ℕ → Type 0
IsBelow j ks = AllByRecursion (λ k. nat_cmp j k ≡ Less) ks

module _ {X : Type 0} (kind : X → ℕ) where
  -- ---- what an insert or a write at the place gives

  -- the write over the item of the number, or the insert before the first of a higher one
  abbrev pub put_at : Result ℕ ℕ → List X → X → List X
  put_at (Ok at) xs x = slice_set xs at x
  put_at (Err at) xs x = insert xs at x

  put_next : (r : Result ℕ ℕ) (y : X) (ys : List X) (x : X) → put_at (next r) (y ∷ ys) x ≡ y ∷ put_at r ys x
  put_next (Ok at) y ys x = refl
  put_next (Err at) y ys x = refl

  put_where : (o : Ordering) (x y : X) (ys : List X) → put_at (place_of kind (kind x) ys) ys x ≡ with_item kind x ys
      → put_at (match_ordering o (Err 0) (Ok 0) (next (place_of kind (kind x) ys))) (y ∷ ys) x ≡ match_ordering o (x ∷ y ∷ ys) (x ∷ ys) (y ∷ with_item kind x ys)
  put_where Less x y ys later = refl
  put_where Equal x y ys later = refl
  put_where Greater x y ys later = put_next (place_of kind (kind x) ys) y ys x ∙ ap (λ zs. y ∷ zs) later

  pub put_at_place : (x : X) (xs : List X) → put_at (place_of kind (kind x) xs) xs x ≡ with_item kind x xs
  put_at_place x [] = refl
  put_at_place x (y ∷ ys) = put_where (nat_cmp (kind x) (kind y)) x y ys (put_at_place x ys)

  -- ---- what stands at the place

  -- the item that was found
  abbrev pub found_at : Result ℕ ℕ → List X → Option X
  found_at (Ok at) xs = slice_get xs at
  found_at (Err at) xs = None

  found_next : (r : Result ℕ ℕ) (y : X) (ys : List X) → found_at (next r) (y ∷ ys) ≡ found_at r ys
  found_next (Ok at) y ys = refl
  found_next (Err at) y ys = refl

  -- none has a number below them all
  none_below : (k : ℕ) (xs : List X) → IsBelow k (map kind xs) → find (λ x. nat_eq (kind x) k) xs ≡ None
  none_below k [] h = refl
  none_below k (x ∷ xs) h =
      let other : nat_eq (kind x) k ≡ false = grind (arith, nat_tests, h.0) in
      ap (λ b. cond b (Some x) (find (λ x. nat_eq (kind x) k) xs)) other ∙ none_below k xs h.1

  below_further : (j k : ℕ) (ks : List ℕ) → nat_cmp j k ≡ Less → IsBelow k ks → IsBelow j ks
  below_further j k [] lt h = tt
  below_further j k (l ∷ ks) lt h = (grind (arith, nat_tests, h.0), below_further j k ks lt h.1)

  found_where : (o : Ordering) (k : ℕ) (y : X) (ys : List X) → nat_cmp k (kind y) ≡ o → IsBelow (kind y) (map kind ys) → found_at (place_of kind k ys) ys ≡ find (λ x. nat_eq (kind x) k) ys
      → found_at (match_ordering o (Err 0) (Ok 0) (next (place_of kind k ys))) (y ∷ ys) ≡ cond (nat_eq (kind y) k) (Some y) (find (λ x. nat_eq (kind x) k) ys)
  found_where Less k y ys is above later =
      let other : nat_eq (kind y) k ≡ false = grind (arith, nat_tests) in
      sym (ap (λ b. cond b (Some y) (find (λ x. nat_eq (kind x) k) ys)) other ∙ none_below k ys (below_further k (kind y) (map kind ys) is above))
  found_where Equal k y ys is above later =
      let same : nat_eq (kind y) k ≡ true = grind (arith, nat_tests) in
      sym (ap (λ b. cond b (Some y) (find (λ x. nat_eq (kind x) k) ys)) same)
  found_where Greater k y ys is above later =
      let other : nat_eq (kind y) k ≡ false = grind (arith, nat_tests) in
      found_next (place_of kind k ys) y ys ∙ later ∙ sym (ap (λ b. cond b (Some y) (find (λ x. nat_eq (kind x) k) ys)) other)

  pub found_at_place : (k : ℕ) (xs : List X) → IsStrictlySortedBy nat_cmp (map kind xs) → found_at (place_of kind k xs) xs ≡ find (λ x. nat_eq (kind x) k) xs
  unfolding IsStrictlySortedBy
  found_at_place k [] h = refl
  found_at_place k (y ∷ ys) h = found_where (nat_cmp k (kind y)) k y ys refl h.0 (found_at_place k ys h.1)

  -- ---- the order stays

  kept_where : (o : Ordering) (j : ℕ) (x y : X) (ys : List X) → nat_cmp j (kind x) ≡ Less → nat_cmp j (kind y) ≡ Less → IsBelow j (map kind ys) → IsBelow j (map kind (with_item kind x ys))
      → IsBelow j (map kind (match_ordering o (x ∷ y ∷ ys) (x ∷ ys) (y ∷ with_item kind x ys)))
  kept_where Less j x y ys here first rest later = (here, (first, rest))
  kept_where Equal j x y ys here first rest later = (here, rest)
  kept_where Greater j x y ys here first rest later = (first, later)

  below_with : (j : ℕ) (x : X) (xs : List X) → nat_cmp j (kind x) ≡ Less → IsBelow j (map kind xs) → IsBelow j (map kind (with_item kind x xs))
  below_with j x [] here h = (here, tt)
  below_with j x (y ∷ ys) here h = kept_where (nat_cmp (kind x) (kind y)) j x y ys here h.0 h.1 (below_with j x ys here h.1)

  sorted_where : (o : Ordering) (x y : X) (ys : List X) → nat_cmp (kind x) (kind y) ≡ o → IsBelow (kind y) (map kind ys) → IsStrictlySortedBy nat_cmp (map kind ys) → IsStrictlySortedBy nat_cmp (map kind (with_item kind x ys))
      → IsStrictlySortedBy nat_cmp (map kind (match_ordering o (x ∷ y ∷ ys) (x ∷ ys) (y ∷ with_item kind x ys)))
  unfolding IsStrictlySortedBy
  sorted_where Less x y ys is above sorted later = ((is, below_further (kind x) (kind y) (map kind ys) is above), (above, sorted))
  sorted_where Equal x y ys is above sorted later =
      let same : kind x ≡ kind y = grind (arith, nat_tests) in
      (rw same above, sorted)
  sorted_where Greater x y ys is above sorted later = (below_with (kind y) x ys (less (kind x) (kind y) is) above, later)

  pub sorted_with : (x : X) (xs : List X) → IsStrictlySortedBy nat_cmp (map kind xs) → IsStrictlySortedBy nat_cmp (map kind (with_item kind x xs))
  unfolding IsStrictlySortedBy
  sorted_with x [] h = (tt, tt)
  sorted_with x (y ∷ ys) h = sorted_where (nat_cmp (kind x) (kind y)) x y ys refl h.0 h.1 (sorted_with x ys h.1)

  -- ---- a binary search finds the place

  at_where : (o : Ordering) (r : Result ℕ ℕ) → o ≡ Greater → match_ordering o (Err 0) (Ok 0) (next r) ≡ next r
  at_where Less r h = cc
  at_where Equal r h = cc
  at_where Greater r h = refl

  below_at : (j : ℕ) (xs : List X) (at : ℕ) (d : X) → IsBelow j (map kind xs) → at < length xs → nat_cmp j (kind (get_or xs at d)) ≡ Less
  below_at j [] at d h lt = absurd (omega arith)
  below_at j (x ∷ xs) zero d h lt = h.0
  below_at j (x ∷ xs) (suc at) d h lt = below_at j xs at d h.1 (omega arith)

  rises : (xs : List X) (i j : ℕ) (d : X) → IsStrictlySortedBy nat_cmp (map kind xs) → i < j → j < length xs → nat_cmp (kind (get_or xs i d)) (kind (get_or xs j d)) ≡ Less
  unfolding IsStrictlySortedBy
  rises [] i j d h lt in_range = absurd (omega arith)
  rises (x ∷ xs) i zero d h lt in_range = absurd (omega arith)
  rises (x ∷ xs) zero (suc j) d h lt in_range = below_at (kind x) xs j d h.0 (omega arith)
  rises (x ∷ xs) (suc i) (suc j) d h lt in_range = rises xs i j d h.1 (omega arith) (omega arith)

  comparisons_rise : (xs : List X) (k : ℕ) → IsStrictlySortedBy nat_cmp (map kind xs) → IsNonDecreasingBy (λ x. ordering_index (nat_cmp (kind x) k)) xs
  comparisons_rise xs k sorted i j d le lt =
      elim (cases_lt i j) [
        | inl below ↦ grind (arith, nat_tests, rises xs i j d sorted below lt)
        | inr at_least ↦ let same : i ≡ j = omega arith in rw same (omega arith)
      ]

  found_place : (xs : List X) (k at : ℕ) → IsStrictlySortedBy nat_cmp (map kind xs) → at < length xs → ((d : X) → nat_cmp (kind (get_or xs at d)) k ≡ Equal) → place_of kind k xs ≡ Ok at
  unfolding IsStrictlySortedBy
  found_place [] k at sorted lt is = absurd (omega arith)
  found_place (x ∷ xs) k zero sorted lt is = ap (λ o. match_ordering o (Err 0) (Ok 0) (next (place_of kind k xs))) (equal (kind x) k (is x))
  found_place (x ∷ xs) k (suc at) sorted lt is =
      let higher : nat_cmp k (kind x) ≡ Greater = grind (arith, nat_tests, below_at (kind x) xs at x sorted.0 (omega arith), is x) in
      at_where _ (place_of kind k xs) higher ∙ ap next (found_place xs k at sorted.1 (omega arith) is)

  gap_place : (xs : List X) (k at : ℕ) → at ≤ length xs → ((j : ℕ) (d : X) → j < at → nat_cmp (kind (get_or xs j d)) k ≡ Less) → ((j : ℕ) (d : X) → at ≤ j → j < length xs → nat_cmp (kind (get_or xs j d)) k ≡ Greater) → place_of kind k xs ≡ Err at
  gap_place [] k zero le before behind = refl
  gap_place [] k (suc at) le before behind = absurd (omega arith)
  gap_place (x ∷ xs) k zero le before behind = ap (λ o. match_ordering o (Err 0) (Ok 0) (next (place_of kind k xs))) (less (kind x) k (behind 0 x (omega arith) (omega arith)))
  gap_place (x ∷ xs) k (suc at) le before behind =
      at_where _ (place_of kind k xs) (greater (kind x) k (before 0 x (omega arith)))
      ∙ ap next (gap_place xs k at (omega arith) (λ j d lt. before (suc j) d (omega arith)) (λ j d ge lt. behind (suc j) d (omega arith) (omega arith)))

  pub searched : (xs : List X) (k : ℕ) (r : Result ℕ ℕ) → IsStrictlySortedBy nat_cmp (map kind xs) → IsSearchInRange r (length xs) → IsBinarySearchResult (λ x. nat_cmp (kind x) k) xs r → r ≡ place_of kind k xs
  searched xs k (Ok at) sorted within is = sym (found_place xs k at sorted within is)
  searched xs k (Err at) sorted within parted =
      let parts = parted (comparisons_rise xs k sorted) in
      sym (gap_place xs k at within (λ j d lt. parts.0 j d (omega arith) lt) (λ j d ge lt. parts.1 j d ge lt))

  -- ---- whether there is an item of the number

  stands : (at : ℕ) (xs : List X) → at < length xs → is_some (slice_get xs at) ≡ true
  stands at [] lt = absurd (omega arith)
  stands zero (x ∷ xs) lt = refl
  stands (suc at) (x ∷ xs) lt = stands at xs (omega arith)

  any_where : (p : X → Bool) (b : Bool) (x : X) (xs : List X) → list_any p xs ≡ is_some (find p xs) → (b || list_any p xs) ≡ is_some (cond b (Some x) (find p xs))
  any_where p true x xs later = refl
  any_where p false x xs later = later

  pub any_found : (p : X → Bool) (xs : List X) → list_any p xs ≡ is_some (find p xs)
  any_found p [] = refl
  any_found p (x ∷ xs) = any_where p (p x) x xs (any_found p xs)

  some_at : (r : Result ℕ ℕ) (xs : List X) → IsSearchInRange r (length xs) → is_ok r ≡ is_some (found_at r xs)
  some_at (Ok at) xs within = sym (stands at xs within)
  some_at (Err at) xs within = refl

  pub some_placed : (k : ℕ) (xs : List X) (r : Result ℕ ℕ) → IsStrictlySortedBy nat_cmp (map kind xs) → IsSearchInRange r (length xs) → r ≡ place_of kind k xs → is_ok r ≡ is_some (find (λ x. nat_eq (kind x) k) xs)
  some_placed k xs r sorted within is = some_at r xs within ∙ ap (λ q. is_some (found_at q xs)) is ∙ ap is_some (found_at_place k xs sorted)

  pub has_placed : (k : ℕ) (xs : List X) (r : Result ℕ ℕ) → IsStrictlySortedBy nat_cmp (map kind xs) → IsSearchInRange r (length xs) → r ≡ place_of kind k xs → is_ok r ≡ list_any (λ x. nat_eq (kind x) k) xs
  has_placed k xs r sorted within is = some_placed k xs r sorted within is ∙ sym (any_found (λ x. nat_eq (kind x) k) xs)

-- ---- numbers alone

ok_next : (r : Result ℕ ℕ) → is_ok (next r) ≡ is_ok r
ok_next (Ok at) = refl
ok_next (Err at) = refl

same_where : (o : Ordering) (k j : ℕ) (ks : List ℕ) → nat_cmp k j ≡ o → is_ok (match_ordering o (Err 0) (Ok 0) (next (place_of (λ i. i) k ks))) ≡ true → (is_ok (place_of (λ i. i) k ks) ≡ true → with_item (λ i. i) k ks ≡ ks)
    → match_ordering o (k ∷ j ∷ ks) (k ∷ ks) (j ∷ with_item (λ i. i) k ks) ≡ j ∷ ks
same_where Less k j ks is found later = absurd (true≢false (sym found))
same_where Equal k j ks is found later = let same : k ≡ j = grind (arith, nat_tests) in ap (λ i. i ∷ ks) same
same_where Greater k j ks is found later = ap (λ js. j ∷ js) (later (sym (ok_next (place_of (λ i. i) k ks)) ∙ found))

-- a number that is there is not put in
pub same_with : (k : ℕ) (ks : List ℕ) → is_ok (place_of (λ i. i) k ks) ≡ true → with_item (λ i. i) k ks ≡ ks
same_with k [] found = absurd (true≢false (sym found))
same_with k (j ∷ ks) found = same_where (nat_cmp k j) k j ks refl found (same_with k ks)
