-- Weights of lists, added up: what they are of two lists in one, of a list that changes at one place, and of one item alone.
use Rattle.std.proofs.Common.{◌≡◌, ℕ, zero, suc, ◌+◌, ◌≤◌, List, [], ◌∷◌, ◌++◌, set, refl, sym, ap, arith}
use mathlib.Core.Option.{some, some-injective, some-ne-none}
use lib.ListN.{get_elem?}
use Rattle.std.specs.List.{range_with_len}
use Rattle.eb_claims.specs.Claiming.{weighed, below}

module _ {A : Type 0} (f : A → ℕ) where
  pub weighed-append : (front back : List A) → weighed f (front ++ back) ≡ weighed f front + weighed f back
  weighed-append [] back = omega arith
  weighed-append (a ∷ front) back = let rest = weighed-append front back in omega arith

  pub weighed-set : (list : List A) (at : ℕ) (old new : A) → get_elem? list at ≡ some old → weighed f (set list at new) + f old ≡ weighed f list + f new
  weighed-set [] at old new is = absurd (some-ne-none old (sym is))
  weighed-set (a ∷ list) zero old new is = let same = ap f (some-injective a old is) in omega arith
  weighed-set (a ∷ list) (suc at) old new is = let rest = weighed-set list at old new is in omega arith

  pub one_of_all : (list : List A) (at : ℕ) (a : A) → get_elem? list at ≡ some a → f a ≤ weighed f list
  one_of_all [] at a is = absurd (some-ne-none a (sym is))
  one_of_all (b ∷ list) zero a is = let same = ap f (some-injective b a is) in omega arith
  one_of_all (b ∷ list) (suc at) a is = let rest = one_of_all list at a is in omega arith

module _ {A : Type 0} (f g : A → ℕ) where
  -- where each of f is at most that of g, so is what they weigh
  pub weighed_at_most : (list : List A) → ((at : ℕ) (a : A) → get_elem? list at ≡ some a → f a ≤ g a) → weighed f list ≤ weighed g list
  weighed_at_most [] each = omega arith
  weighed_at_most (a ∷ list) each = let here = each 0 a refl in let rest = weighed_at_most list (λ at b is. each (suc at) b is) in omega arith

  -- where f is 0 of each that weighs nothing, and nothing has weight, f adds up to 0
  none_else : (list : List A) → weighed g list ≡ 0 → ((at : ℕ) (a : A) → get_elem? list at ≡ some a → g a ≡ 0 → f a ≡ 0) → weighed f list ≡ 0
  none_else [] weightless each = refl
  none_else (a ∷ list) weightless each = let here = each 0 a refl (omega arith) in let rest = none_else list (omega arith) (λ at b is. each (suc at) b is) in omega arith

  -- where one has all the weight, it has all of f too
  pub alone : (list : List A) (at : ℕ) (a : A) → get_elem? list at ≡ some a → weighed g list ≡ g a → ((at : ℕ) (b : A) → get_elem? list at ≡ some b → g b ≡ 0 → f b ≡ 0) → weighed f list ≡ f a
  alone [] at a is all each = absurd (some-ne-none a (sym is))
  alone (b ∷ list) zero a is all each =
      let same = ap g (some-injective b a is) in
      let it = ap f (some-injective b a is) in
      let rest = none_else list (omega arith) (λ at c is. each (suc at) c is) in
      omega arith
  alone (b ∷ list) (suc at) a is all each =
      let mine = one_of_all g list at a is in
      let here = each 0 b refl (omega arith) in
      let rest = alone list at a is (omega arith) (λ at c is. each (suc at) c is) in
      omega arith

-- one number more
ranged : (f : ℕ → ℕ) (start n : ℕ) → weighed f (range_with_len start (suc n)) ≡ weighed f (range_with_len start n) + f (start + n)
ranged f start zero = let same : start + zero ≡ start = omega arith in let value = ap f same in omega arith
ranged f start (suc n) = let rest = ranged f (start + 1) n in let same : start + 1 + n ≡ start + suc n = omega arith in let value = ap f same in omega arith

pub below_next : (f : ℕ → ℕ) (n : ℕ) → below f (n + 1) ≡ below f n + f n
below_next f n =
    let next : n + 1 ≡ suc n = omega arith in
    let all = ap (below f) next in
    let more = ranged f 0 n in
    let same : 0 + n ≡ n = omega arith in
    let value = ap f same in
    omega arith
