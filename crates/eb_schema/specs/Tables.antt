-- Indices of a list by number and by name.
use Rattle.std.specs.Prelude.{◌≡◌, ℕ, suc, ◌==◌, List, [], ◌∷◌, Bool, false, cond, nat_lt, Option, Some, None, bytes_eq, Vec}
use Rattle.std.specs.Ordering.{nat_cmp}
use Rattle.std.specs.BTreeMap.{BTreeMap, get, get_by}
use Rattle.std.specs.declared.alloc.Global.{Global}
use Rattle.std.specs.Cmp.Lexicographic.{slice_cmp}

-- the index of the first that passes, in a list whose first has this index
abbrev pub first_from : {X : Type 0} → ℕ → (X → Bool) → List X → Option ℕ
first_from i test [] = None
first_from i test (x ∷ xs) = cond (test x) (Some i) (first_from (suc i) test xs)

-- whether there is a first, and it stands before this index
abbrev pub stands_before : Option ℕ → ℕ → Bool
stands_before None index = false
stands_before (Some first) index = nat_lt first index

-- what a map has under a name
abbrev pub under_name : BTreeMap (Vec ℕ Global) ℕ → List ℕ → Option ℕ
under_name map name = get_by (λ k. slice_cmp nat_cmp name k.items) map

-- two maps lead to the first item of each number and of each name
pub record IsIndex {X : Type 0} (number_of : X → ℕ) (name_of : X → List ℕ) (items : List X) (by_number : BTreeMap ℕ ℕ) (by_name : BTreeMap (Vec ℕ Global) ℕ) : Type 0 where
  pub numbers : (q : ℕ) → get nat_cmp by_number q ≡ first_from 0 (λ x. number_of x == q) items
  pub names : (q : List ℕ) → under_name by_name q ≡ first_from 0 (λ x. bytes_eq q (name_of x)) items
