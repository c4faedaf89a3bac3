-- A list of names that is sorted, and is another strictly sorted list in some order, is that list.
use Rattle.std.proofs.Common.{◌≡◌, ℕ, ◌+◌, Bool, true, false, cond, ◌||◌, List, [], ◌∷◌, refl, sym, ◌∙◌, ap, T, subst, arith, get_or}
use Rattle.std.specs.Prelude.{Option, Some, None}
use Rattle.std.specs.List.{IsDistinct, list_any}
use Rattle.std.specs.List.Sorted.{IsPermutation, IsSorted, IsStrictlySortedBy}
use Rattle.std.specs.Cmp.{IsTotalOrder, eq_by_cmp_equiv}
use Rattle.std.specs.Ordering.{eq_by_cmp, is_eq, is_lt, ordering_reverse}
use Rattle.std.specs.declared.cmp.Ordering.{Ordering}
use Rattle.std.specs.declared.cmp.Ordering.TheVariants.{Less, Equal, Greater}
use Rattle.std.specs.Map.{keys_of}
use Rattle.std.specs.FinMap.Entries.{find, same_entries}
use Rattle.std.proofs.lemmas.List.Sorted.{IsPermutation-trans, length_permutation, list_any-IsPermutation}
use Rattle.std.proofs.lemmas.Map.Keys.{IsDistinct-from_sorted, IsDistinct-IsPermutation, apart_from_distinct, sorted_from_all_adjacent}
use Rattle.std.proofs.lemmas.Map.Lookups.{CmpEqualImpliesEq}
use Rattle.eb_base.proofs.MapLaws.{sorted_test}

module _ {K : Type 0} {R : K → K → Ordering} (o : IsTotalOrder R) (exact : CmpEqualImpliesEq R) where
  less_where : (a b : K) (r : Ordering) → R a b ≡ r → is_lt (R b a) ≡ false → is_eq r ≡ false → r ≡ Less
  less_where a b Less e h k = refl
  less_where a b Equal e h k = absurd (subst T k tt)
  less_where a b Greater e h k = absurd (subst T (sym (ap is_lt (o.antisymm b a ∙ ap ordering_reverse e)) ∙ h) tt)

  strictly : (ys : List K) → IsSorted R ys → IsDistinct (eq_by_cmp R) ys → (d : K) → IsStrictlySortedBy R ys
  strictly ys sorted distinct d =
      sorted_from_all_adjacent o ys d (λ k h.
      less_where (get_or ys k d) (get_or ys (k + 1) d) (R (get_or ys k d) (get_or ys (k + 1) d)) refl (sorted k d (omega arith) h)
      (apart_from_distinct (eq_by_cmp R) ys k (k + 1) d distinct (omega arith) h))

  abbrev zeros : List K → List (K × ℕ)
  zeros [] = []
  zeros (x ∷ xs) = (x, 0) ∷ zeros xs

  keys_of-zeros : (xs : List K) → keys_of (zeros xs) ≡ xs
  keys_of-zeros [] = refl
  keys_of-zeros (x ∷ xs) = ap (λ ys. x ∷ ys) (keys_of-zeros xs)

  abbrev there : Bool → Option ℕ
  there true = Some 0
  there false = None

  there_where : (b t : Bool) → cond b (there true) (there t) ≡ there (b || t)
  there_where true t = refl
  there_where false t = refl

  find-zeros : (q : K) (xs : List K) → find R q (zeros xs) ≡ there (list_any (eq_by_cmp R q) xs)
  find-zeros q [] = refl
  find-zeros q (x ∷ xs) = ap (cond (eq_by_cmp R q x) (there true)) (find-zeros q xs) ∙ there_where (eq_by_cmp R q x) (list_any (eq_by_cmp R q) xs)

  same_members : (xs ys : List K) → IsStrictlySortedBy R xs → IsStrictlySortedBy R ys → IsPermutation xs ys → xs ≡ ys
  same_members xs ys h k p =
      sym (keys_of-zeros xs)
      ∙ ap keys_of (same_entries R o exact (zeros xs) (zeros ys)
      (sorted_test R (zeros xs) (subst (IsStrictlySortedBy R) (sym (keys_of-zeros xs)) h))
      (sorted_test R (zeros ys) (subst (IsStrictlySortedBy R) (sym (keys_of-zeros ys)) k))
      (λ q. find-zeros q xs ∙ ap there (list_any-IsPermutation (eq_by_cmp R q) xs ys p) ∙ sym (find-zeros q ys)))
      ∙ keys_of-zeros ys

  no_members : (xs : List K) → IsPermutation xs [] → [] ≡ xs
  no_members [] p = refl
  no_members (x ∷ xs) p = absurd (omega (arith, length_permutation (x ∷ xs) [] p))

  pub sorted_once : (xs order ys : List K) → IsStrictlySortedBy R xs → IsPermutation xs order → IsPermutation order ys → IsSorted R ys → ys ≡ xs
  sorted_once xs order [] h p q s = no_members xs (IsPermutation-trans xs order [] p q)
  sorted_once xs order (y ∷ ys) h p q s =
      let all = IsPermutation-trans xs order (y ∷ ys) p q in
      let distinct = IsDistinct-IsPermutation (eq_by_cmp R) (eq_by_cmp_equiv o).symm xs (y ∷ ys) all (IsDistinct-from_sorted R xs h) in
      sym (same_members xs (y ∷ ys) h (strictly (y ∷ ys) s distinct y) all)
