-- A list of one item or none ascends.
use Rattle.std.proofs.Common.{◌≡◌, ℕ, ◌-◌, ◌≤◌, true, List, [], ◌∷◌, length, drop, refl, arith, length-drop}
use Rattle.std.specs.declared.cmp.Ordering.{Ordering}
use Rattle.eb_base.specs.Maps.{is_ascending}

module _ {X : Type 0} (R : X → X → Ordering) where
  few : (xs : List X) → length xs ≤ 1 → is_ascending R xs ≡ true
  few [] h = refl
  few (a ∷ []) h = refl
  few (a ∷ (b ∷ xs)) h = absurd (omega arith)

  pub last_one : (xs : List X) (at : ℕ) → 1 ≤ at → length xs ≤ at → is_ascending R (drop (at - 1) xs) ≡ true
  last_one xs at low h = few (drop (at - 1) xs) (omega (arith, length-drop (at - 1) xs))
