-- Where an item of a number stands in an ascending list, or would stand.
use Rattle.std.specs.Prelude.{ℕ, suc, List, [], ◌∷◌, Result, Ok, Err}
use Rattle.std.specs.Ordering.{nat_cmp, match_ordering}

-- one place further
abbrev pub next : Result ℕ ℕ → Result ℕ ℕ
next (Ok at) = Ok (suc at)
next (Err at) = Err (suc at)

-- its place, or else that of the first item of a higher number
abbrev pub place_of : {X : Type 0} → (X → ℕ) → ℕ → List X → Result ℕ ℕ
place_of kind k [] = Err 0
place_of kind k (x ∷ xs) = match_ordering (nat_cmp k (kind x)) (Err 0) (Ok 0) (next (place_of kind k xs))
