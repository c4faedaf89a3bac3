-- Claims. Threads share one word, which counts the claims, and each has a seat with a view: the items that it claimed, how many of its claims found none, and its share of the workers.
-- What each step makes of a view stands here, and the rule of five parts that all of them keep.
use Rattle.std.specs.Prelude.{◌≡◌, ℕ, zero, suc, ◌+◌, ◌-◌, ◌<◌, ◌≤◌, Bool, true, false, nat_lt, min, List, [], ◌∷◌, ◌++◌, length, slice_index, IsPermutation}
use Rattle.std.specs.List.{range_with_len}
use mathlib.Core.Option.{some}
use lib.ListN.{get_elem?}
use Rattle.atomic_table.specs.Table.{State, Me, Step}
use Rattle.eb_claims.specs.declared.rule.View.{View}
use Rattle.eb_claims.specs.declared.rule.Work.{Work}

abbrev pub most_items : ℕ
most_items = 262144

abbrev pub most_workers : ℕ
most_workers = 64

abbrev pub work : ℕ → ℕ → Work
work items workers = record { items = items; workers = workers }

-- each number below n stands once in the list, and nothing else stands there
abbrev pub EachOnce : ℕ → List ℕ → Type 0
EachOnce n list = IsPermutation (range_with_len 0 n) list

-- THE STEPS, as changes of a view

-- the view of the first seat, which stands for all workers
abbrev pub first : Work → View
first k = record { list = []; stops = 0; share = k.workers; items = k.items; workers = k.workers }

-- one item more
abbrev pub took : View → ℕ → View
took v item = record { list = v.list ++ item ∷ []; stops = v.stops; share = v.share; items = v.items; workers = v.workers }

-- one stop more
abbrev pub stopped : View → View
stopped v = record { list = v.list; stops = v.stops + 1; share = v.share; items = v.items; workers = v.workers }

-- a claim that finds this number takes it where it is an item, and else stops
abbrev pub claimed_as : Bool → View → ℕ → View
claimed_as true v found = took v found
claimed_as false v found = stopped v

abbrev pub claimed : View → ℕ → View
claimed v found = claimed_as (nat_lt found v.items) v found

-- a part of the share goes to a new seat
abbrev pub less : ℕ → View → View
less part v = record { list = v.list; stops = v.stops; share = v.share - part; items = v.items; workers = v.workers }

-- the new seat, which has claimed nothing yet
abbrev pub fresh : ℕ → View → View
fresh part v = record { list = []; stops = 0; share = part; items = v.items; workers = v.workers }

-- both seats in one
abbrev pub joined : View → View → View
joined v w = record { list = v.list ++ w.list; stops = v.stops + w.stops; share = v.share + w.share; items = v.items; workers = v.workers }

-- what is left of the seat that was taken in
abbrev pub spent : View
spent = record { list = []; stops = 0; share = 0; items = 0; workers = 0 }

-- THE RULE

-- what these weigh together, each by itself so much
abbrev pub weighed : {A : Type 0} → (A → ℕ) → List A → ℕ
weighed weight [] = 0
weighed weight (x ∷ xs) = weighed weight xs + weight x

-- what the numbers from 0 on weigh, so many of them
abbrev pub below : (ℕ → ℕ) → ℕ → ℕ
below weight count = weighed weight (range_with_len 0 count)

-- What holds of each view. A spent view, of no share, counts for nothing
pub record IsFair (k : Work) (word : ℕ) (v : View) : Type 0 where
  pub numbers : 0 < v.share → (v.items ≡ k.items) × (v.workers ≡ k.workers)
  pub stops : v.stops ≤ v.share
  pub stopped : 0 < v.stops → k.items < word
  pub spent : v.share ≡ 0 → v.list ≡ []

-- What holds of all of them. However numbers are weighed, the lists of all views weigh as much as the numbers below the word that are items:
-- so over these lists each of them stands once, and nothing else stands
pub record AreFair (k : Work) (word : ℕ) (views : List View) : Type 0 where
  pub each : (at : ℕ) (v : View) → get_elem? views at ≡ some v → IsFair k word v
  pub once : (weight : ℕ → ℕ) → weighed (λ v. weighed weight v.list) views ≡ below weight (min word k.items)
  pub bound : word ≤ k.items + weighed (λ v. v.stops) views
  pub shares : weighed (λ v. v.share) views ≡ k.workers

abbrev pub Holds : Work → State (Unit {0}) View → Type 0
Holds k s = (length s.words ≡ 1) × AreFair k (slice_index s.words 0) s.views

-- WHAT A STEP TELLS

-- a claim
abbrev pub Claimed : Step (Unit {0}) → Me (Unit {0}) View → ℕ → Me (Unit {0}) View → Type 0
Claimed step me found me' = (me' ≡ (claimed me.0 found, me.1)) × (length me'.0.list ≤ me.0.items)

-- a look: a seat of the whole share that has noted a stop has each item once
abbrev pub Learned : Step (Unit {0}) → Me (Unit {0}) View → ℕ → Me (Unit {0}) View → Type 0
Learned step me found me' = (me' ≡ me) × (me.0.share ≡ me.0.workers → 0 < me.0.stops → EachOnce me.0.items me.0.list)
