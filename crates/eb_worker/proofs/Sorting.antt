-- The entries of items that were each claimed once are those of all items, in another order; so a sort of them is one of all items' lists.
use Rattle.std.proofs.Common.{◌≡◌, ℕ, List, [], ◌∷◌, refl, sym, ◌∙◌, subst, arith, sum_by, flat_map, IsPermutation}
use Rattle.std.specs.List.{range_with_len}
use Rattle.std.proofs.lemmas.List.Sums.{sum_by-cons}
use Rattle.std.proofs.lemmas.List.Sorted.{sum_by-IsPermutation, IsPermutation-trans}
use Rattle.eb_claims.specs.Claiming.{EachOnce, weighed}
use Rattle.eb_claims.proofs.Whole.{spread}
use Rattle.eb_worker.specs.Recording.{SortKey, IsSortOf, lists_of}

weighed-sum_by : {A : Type 0} (f : A → ℕ) (list : List A) → weighed f list ≡ sum_by f list
weighed-sum_by f [] = refl
weighed-sum_by f (a ∷ list) = let rest = weighed-sum_by f list in let more = sum_by-cons f a list in omega arith

pub weighed-IsPermutation : {A : Type 0} (f : A → ℕ) (xs ys : List A) → IsPermutation xs ys → weighed f xs ≡ weighed f ys
weighed-IsPermutation f xs ys same = weighed-sum_by f xs ∙ (sym (sum_by-IsPermutation f xs ys same) ∙ sym (weighed-sum_by f ys))

pub sort_of_all : {E : Type 0} (key : E → SortKey) (lists : ℕ → List E) (items : ℕ) (claimed : List ℕ) (entries sorted : List E)
    → EachOnce items claimed → entries ≡ flat_map lists claimed → IsSortOf key entries sorted → IsSortOf key (lists_of lists items) sorted
sort_of_all key lists items claimed entries sorted once are sort = record {
  same = IsPermutation-trans _ entries _
      (subst (IsPermutation (lists_of lists items)) (sym are) (spread lists (range_with_len 0 items) claimed (λ weight. weighed-IsPermutation weight _ _ once)))
      sort.same;
  rises = sort.rises;
}
