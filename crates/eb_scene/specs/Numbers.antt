-- Ascending lists of numbers.
use Rattle.std.specs.Prelude.{ℕ, Bool, cond, not, ◌==◌, List, [], ◌∷◌, filter}
use Rattle.std.specs.List.{list_any}
use Rattle.eb_schema.specs.Rows.{with_item}

-- whether a number is in a list
abbrev pub has_number : List ℕ → ℕ → Bool
has_number ns n = list_any (λ k. k == n) ns

-- an ascending list with a number at its place, once
abbrev pub with_number : List ℕ → ℕ → List ℕ
with_number ns n = with_item (λ k. k) n ns

-- a list without the first item of a number
abbrev pub without_item : {X : Type 0} → (X → ℕ) → List X → ℕ → List X
without_item number [] n = []
without_item number (x ∷ xs) n = cond (number x == n) xs (x ∷ without_item number xs n)

-- a list without a number
abbrev pub without_number : List ℕ → ℕ → List ℕ
without_number ns n = without_item (λ k. k) ns n

-- a list without these numbers
abbrev pub without_numbers : List ℕ → List ℕ → List ℕ
without_numbers ns gone = filter (λ n. not (has_number gone n)) ns
