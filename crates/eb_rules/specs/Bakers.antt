-- Which rules there are: the one of a number, and the bakers on an authoring type.
use Rattle.std.specs.Prelude.{◌≡◌, ◌<◌, ◌≤◌, ℕ, zero, suc, ◌+◌, ◌-◌, ◌==◌, Bool, true, false, List, [], ◌∷◌, ◌++◌, Option, Some, None, slice_get, slice_set, slice_index_or}
use Rattle.eb_rules.specs.declared.plans.BakerPlan.{BakerPlan}

abbrev pub filled : {A : Type 0} → Option (Option A) → Option A
filled None = None
filled (Some slot) = slot

-- the rule of a number, where each stands at its own, from 1 on
abbrev pub at_number : {A : Type 0} → ℕ → List (Option A) → Option A
at_number zero slots = None
at_number (suc n) slots = filled (slice_get slots n)

abbrev pub if_on : Bool → ℕ → List ℕ → List ℕ
if_on true n ns = n ∷ ns
if_on false n ns = ns

-- the numbers of the bakers on a type, where the first one stands at this number
abbrev pub numbers_from : ℕ → ℕ → List (Option BakerPlan) → List ℕ
numbers_from n kind [] = []
numbers_from n kind (None ∷ xs) = numbers_from (n + 1) kind xs
numbers_from n kind (Some x ∷ xs) = if_on (x.authoring == kind) n (numbers_from (n + 1) kind xs)

-- the numbers of the bakers on an authoring type, ascending
abbrev pub numbers_on : ℕ → List (Option BakerPlan) → List ℕ
numbers_on kind bakers = numbers_from 1 kind bakers

-- whether a baker is there, and on the type
abbrev pub is_on : ℕ → Option BakerPlan → Bool
is_on kind None = false
is_on kind (Some x) = x.authoring == kind

-- numbers that ascend, from this one on
abbrev pub Ascends : ℕ → List ℕ → Type 0
Ascends n [] = Unit {0}
Ascends n (k ∷ ks) = (n ≤ k) × Ascends (k + 1) ks

-- one more number behind those of a type, of which each has a list
pub record IsNoted (kind n : ℕ) (old new : List (List ℕ)) : Type 0 where
  pub some : 0 < kind
  pub most : kind ≤ 128
  pub is : new ≡ slice_set old (kind - 1) (slice_index_or old (kind - 1) [] ++ n ∷ [])

-- the same where a baker stands at the number
abbrev pub IsGathered : Option BakerPlan → ℕ → List (List ℕ) → List (List ℕ) → Type 0
IsGathered None n old new = new ≡ old
IsGathered (Some x) n old new = IsNoted x.authoring n old new

-- the list of each of the 128 types
abbrev pub AreByType : List (List ℕ) → List (Option BakerPlan) → Type 0
AreByType lists bakers = (k : ℕ) → k < 128 → slice_get lists k ≡ Some (numbers_on (suc k) bakers)
