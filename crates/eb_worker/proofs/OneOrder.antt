-- Two sorts of one list are equal, where entries that tie are. The lists of items that are numbered are such: an entry's key tells where it stands.
use Rattle.std.proofs.Common.{◌≡◌, ℕ, zero, suc, ◌+◌, ◌<◌, Bool, true, false, not, ◌&&◌, cond, List, [], ◌∷◌, ◌++◌, length, get_or, refl, sym, ap, ◌∙◌, subst, arith, All, flat_map, append_assoc, length-append, IsSortedBy}
use Rattle.std.specs.List.{range_with_len}
use Rattle.std.specs.List.Sorted.{ties}
use Rattle.std.specs.Cmp.{IsStrictWeakOrder, IsTotalOrder, on_total, then_total, nat_cmp_total, int_cmp_total}
use Rattle.std.specs.Ordering.{nat_cmp, int_cmp, ordering_then, ordering_reverse, is_lt}
use Rattle.std.specs.declared.cmp.Ordering.{Ordering}
use Rattle.std.specs.declared.cmp.Ordering.TheVariants.{Less, Equal, Greater}
use Rattle.std.proofs.lemmas.Cmp.{ranked}
use Rattle.std.proofs.lemmas.List.Elements.{All-nil, All-cons, All-tail, All-append}
use Rattle.std.proofs.lemmas.List.Sorted.{All-permutation, sorted_far, ranks_by}
use mathlib.Core.Bool.{true≢false}
use mathlib.Core.Option.{some, some-injective}
use lib.ListN.{get_elem?}
use Rattle.eb_claims.specs.Claiming.{weighed}
use Rattle.eb_worker.specs.Recording.{SortKey, key_cmp, IsNumbered, IsSortOf, lists_of}
use Rattle.eb_worker.proofs.Sorting.{weighed-IsPermutation}

first_of_both : (a b : Bool) → (not a && not b) ≡ true → a ≡ false
first_of_both false b both = refl
first_of_both true b both = sym both

tied : (a b : Bool) → a ≡ false → b ≡ false → (not a && not b) ≡ true
tied false false here there = refl
tied false true here there = sym there
tied true b here there = sym here

module _ {E : Type 0} (lt : E → E → Bool) (o : IsStrictWeakOrder lt) where
  itself : (x : E) (b : Bool) → lt x x ≡ b → lt x x ≡ false
  itself x false is = is
  itself x true is = o.one_way x x is

  abbrev tie : E → E → ℕ
  tie x y = cond (ties lt x y) 1 0

  not_less_as : (x y z : E) (zs : List E) → lt z y ≡ false → (0 < weighed (tie x) zs → lt x y ≡ false) → (b : Bool) → ties lt x z ≡ b → 0 < weighed (tie x) zs + cond b 1 0 → lt x y ≡ false
  not_less_as x y z zs here rest true is some_tie = o.chain x z y (first_of_both (lt x z) (lt z x) is) here
  not_less_as x y z zs here rest false is some_tie = rest (omega arith)

  -- what ties with one that isn't less than y isn't less than y
  not_less : (x y : E) (zs : List E) → All (λ z. lt z y ≡ false) zs → 0 < weighed (tie x) zs → lt x y ≡ false
  not_less x y [] none_less some_tie = absurd (omega arith)
  not_less x y (z ∷ zs) none_less some_tie =
      not_less_as x y z zs (none_less 0 x (omega arith)) (λ more. not_less x y zs (All-tail (λ z. lt z y ≡ false) z zs none_less) more) (ties lt x z) refl some_tie

  -- the head of a sorted list is the least
  least : (x : E) (xs : List E) → IsSortedBy lt (x ∷ xs) → All (λ z. lt z x ≡ false) (x ∷ xs)
  least x xs up k d within = sorted_far lt o (x ∷ xs) up 0 k d (omega arith) within

  rest_rises : (x : E) (xs : List E) → IsSortedBy lt (x ∷ xs) → IsSortedBy lt xs
  rest_rises x xs up k d low within =
      let next : suc k + 1 ≡ suc (k + 1) = omega arith in
      subst (λ (n : ℕ). lt (get_or (x ∷ xs) n d) (get_or xs k d) ≡ false) next (up (suc k) d (omega arith) (omega arith))

  module _ (P : E → Type 0) (alike : (x y : E) → P x → P y → lt x y ≡ false → lt y x ≡ false → x ≡ y) where
    pub in_one_order : (xs ys : List E) → All P xs → All P ys → IsSortedBy lt xs → IsSortedBy lt ys → ((f : E → ℕ) → weighed f xs ≡ weighed f ys) → xs ≡ ys
    in_one_order [] [] of_xs of_ys xs_up ys_up same = refl
    in_one_order [] (y ∷ ys) of_xs of_ys xs_up ys_up same = let lengths = same (λ _. 1) in absurd (omega arith)
    in_one_order (x ∷ xs) [] of_xs of_ys xs_up ys_up same = let lengths = same (λ _. 1) in absurd (omega arith)
    in_one_order (x ∷ xs) (y ∷ ys) of_xs of_ys xs_up ys_up same =
        let mine : tie x x ≡ 1 = (let self = itself x (lt x x) refl in ap (λ b. cond b 1 0) (tied (lt x x) (lt x x) self self)) in
        let theirs : tie y y ≡ 1 = (let self = itself y (lt y y) refl in ap (λ b. cond b 1 0) (tied (lt y y) (lt y y) self self)) in
        let some_x = same (tie x) in
        let some_y = same (tie y) in
        let up = not_less x y (y ∷ ys) (least y ys ys_up) (omega arith) in
        let down = not_less y x (x ∷ xs) (least x xs xs_up) (omega arith) in
        let heads = alike x y (of_xs 0 x (omega arith)) (of_ys 0 y (omega arith)) up down in
        let rest = in_one_order xs ys (All-tail P x xs of_xs) (All-tail P y ys of_ys) (rest_rises x xs xs_up) (rest_rises y ys ys_up)
        (λ f. let whole = same f in let head = ap f heads in omega arith) in
        λ i. heads i ∷ rest i

neither : (p q : Ordering) → p ≡ ordering_reverse q → is_lt p ≡ false → is_lt q ≡ false → p ≡ Equal
neither Less q is up down = absurd (true≢false up)
neither Equal q is up down = refl
neither Greater Less is up down = absurd (true≢false down)
neither Greater Equal is up down = is
neither Greater Greater is up down = cc

both_equal : (p q : Ordering) → ordering_then p q ≡ Equal → (p ≡ Equal) × (q ≡ Equal)
both_equal Less q is = cc
both_equal Equal q is = (refl, is)
both_equal Greater q is = cc

keys_total : IsTotalOrder key_cmp
keys_total = then_total (then_total (on_total (λ (k : SortKey). k.0) int_cmp_total) (on_total (λ (k : SortKey). k.1) nat_cmp_total)) (on_total (λ (k : SortKey). k.2) nat_cmp_total)

-- keys of which neither is less have one item and one place
one_place : (a b : SortKey) → is_lt (key_cmp a b) ≡ false → is_lt (key_cmp b a) ≡ false → (a.1 ≡ b.1) × (a.2 ≡ b.2)
one_place a b up down =
    let equal = neither (key_cmp a b) (key_cmp b a) (keys_total.antisymm a b) up down in
    let parts = both_equal (ordering_then (int_cmp a.0 b.0) (nat_cmp a.1 b.1)) (nat_cmp a.2 b.2) equal in
    let item = both_equal (int_cmp a.0 b.0) (nat_cmp a.1 b.1) parts.0 in
    (ranked a.1 b.1 Equal (sym item.1), ranked a.2 b.2 Equal (sym parts.1))

behind : {A : Type 0} (front : List A) (a : A) (back : List A) (place : ℕ) → length front ≡ place → get_elem? (front ++ a ∷ back) place ≡ some a
behind [] a back zero long = refl
behind [] a back (suc place) long = absurd (omega arith)
behind (b ∷ front) a back zero long = absurd (omega arith)
behind (b ∷ front) a back (suc place) long = behind front a back place (omega arith)

module _ {E : Type 0} (key : E → SortKey) (lists : ℕ → List E) where
  -- the entry stands where its key says
  abbrev Stands : E → Type 0
  Stands x = get_elem? (lists (key x).1) (key x).2 ≡ some x

  stand_from : (item place : ℕ) (front list : List E) → length front ≡ place → lists item ≡ front ++ list → IsNumbered key item place list → All Stands list
  stand_from item place front [] long whole numbered = All-nil Stands
  stand_from item place front (x ∷ list) long whole numbered =
      let here : get_elem? (lists item) place ≡ some x = ap (λ l. get_elem? l place) whole ∙ behind front x list place long in
      let there : Stands x = subst (λ (z : ℕ × ℕ). get_elem? (lists z.0) z.1 ≡ some x) (λ i. (sym numbered.0 i, sym numbered.1 i)) here in
      let rest = stand_from item (place + 1) (front ++ x ∷ []) list (omega (arith, length-append front (x ∷ []))) (whole ∙ sym (append_assoc front (x ∷ []) list)) numbered.2 in
      All-cons Stands x list there rest

  all_stand : ((item : ℕ) → IsNumbered key item 0 (lists item)) → (start n : ℕ) → All Stands (flat_map lists (range_with_len start n))
  all_stand numbered start zero = All-nil Stands
  all_stand numbered start (suc n) = All-append Stands (lists start) _ (stand_from start 0 [] (lists start) refl refl (numbered start)) (all_stand numbered (start + 1) n)

  -- two sorts of the items' lists are one list
  pub one_sort : ((item : ℕ) → IsNumbered key item 0 (lists item)) → (items : ℕ) (xs ys : List E) → IsSortOf key (lists_of lists items) xs → IsSortOf key (lists_of lists items) ys → xs ≡ ys
  one_sort numbered items xs ys a b =
      let all = all_stand numbered 0 items in
      in_one_order (λ x y. is_lt (key_cmp (key x) (key y))) (ranks_by keys_total key) Stands
      (λ x y here there up down.
      let place = one_place (key x) (key y) up down in
      let same : get_elem? (lists (key x).1) (key x).2 ≡ some y = subst (λ (z : ℕ × ℕ). get_elem? (lists z.0) z.1 ≡ some y) (λ i. (sym place.0 i, sym place.1 i)) there in
      some-injective x y (sym here ∙ same))
      xs ys
      (All-permutation Stands _ xs a.same all)
      (All-permutation Stands _ ys b.same all)
      a.rises
      b.rises
      (λ f. sym (weighed-IsPermutation f _ xs a.same) ∙ weighed-IsPermutation f _ ys b.same)
