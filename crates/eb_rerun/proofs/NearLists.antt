-- The runs around an object, one baker after the other.
use Rattle.std.proofs.Common.{◌≡◌, ℕ, suc, ◌+◌, ◌-◌, ◌<◌, ◌≤◌, List, [], ◌∷◌, ◌++◌, map, refl, sym, ◌∙◌, ap, append_assoc, append-nil, arith}
use Rattle.eb_eval.specs.Runs.{numbers_from}

module _ {X : Type 0} (f : ℕ → X) where
  abbrev left : ℕ → ℕ → List X
  left n most = map f (numbers_from n (most - n))

  one_less : (n most : ℕ) → n < most → left n most ≡ f n ∷ left (n + 1) most
  unfolding numbers_from
  one_less n most low = let more : most - n ≡ suc (most - (n + 1)) = omega arith in rw more refl

  none_left : (n most : ℕ) → most ≤ n → left n most ≡ []
  unfolding numbers_from
  none_left n most past = let none : most - n ≡ 0 = omega arith in rw none refl

  pub one_put : (out more whole : List X) (n most : ℕ) → n < most → out ++ left n most ≡ whole → more ≡ out ++ f n ∷ [] → more ++ left (n + 1) most ≡ whole
  one_put out more whole n most low so_far put =
      ap (λ xs. xs ++ left (n + 1) most) put ∙ append_assoc out (f n ∷ []) (left (n + 1) most) ∙ ap (λ xs. out ++ xs) (sym (one_less n most low)) ∙ so_far

  pub all_put : (out whole : List X) (n most : ℕ) → most ≤ n → out ++ left n most ≡ whole → out ≡ whole
  all_put out whole n most past so_far = sym (append-nil out) ∙ ap (λ xs. out ++ xs) (sym (none_left n most past)) ∙ so_far
