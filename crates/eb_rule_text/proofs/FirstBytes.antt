-- Bytes that go on, counted within the first so many.
use Rattle.std.proofs.Common.{◌≡◌, ℕ, zero, suc, ◌+◌, ◌≤◌, min, Bool, true, false, cond, List, [], ◌∷◌, length, take, ◌∙◌, arith}
use Rattle.std.specs.List.{prefix_len}
use Rattle.std.proofs.lemmas.List.Sums.{prefix_len-le-length}

one_more_passes : (b : Bool) (n k j : ℕ) → k ≡ min j n → cond b (1 + k) 0 ≡ min (cond b (1 + j) 0) (suc n)
one_more_passes true n k j e = omega arith
one_more_passes false n k j e = omega arith

prefix_len_take : {X : Type 0} (p : X → Bool) (n : ℕ) (xs : List X) → prefix_len p (take n xs) ≡ min (prefix_len p xs) n
prefix_len_take p zero xs = omega arith
prefix_len_take p (suc n) [] = omega arith
prefix_len_take p (suc n) (x ∷ xs) = one_more_passes (p x) n (prefix_len p (take n xs)) (prefix_len p xs) (prefix_len_take p n xs)

within : (k n most : ℕ) → k ≤ n → min k (min n most) ≡ min k most
within k n most h = omega arith

pub prefix_len_within : {X : Type 0} (p : X → Bool) (k most : ℕ) (xs : List X) → k ≡ min (length xs) most → prefix_len p (take k xs) ≡ min (prefix_len p xs) most
prefix_len_within p k most xs e = rw (e) (prefix_len_take p (min (length xs) most) xs ∙ within (prefix_len p xs) (length xs) most (prefix_len-le-length p xs))
