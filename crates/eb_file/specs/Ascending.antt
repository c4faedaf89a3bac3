-- The members of a list in ascending order, each of them once.
use Rattle.std.specs.Prelude.{◌≡◌, Bool, List, [], ◌∷◌}
use Rattle.std.specs.List.{list_any}
use Rattle.std.specs.List.Sorted.{IsStrictlySortedBy}
use Rattle.std.specs.Ordering.{eq_by_cmp}
use Rattle.std.specs.declared.cmp.Ordering.{Ordering}
use Rattle.std.specs.declared.cmp.Ordering.TheVariants.{Less, Equal, Greater}

-- whether x is in the list
abbrev pub has : {X : Type 0} → (X → X → Ordering) → List X → X → Bool
has cmp xs x = list_any (eq_by_cmp cmp x) xs

-- the one list ascends strictly, and has what the other has
pub record IsEachOnce {X : Type 0} (cmp : X → X → Ordering) (ascending xs : List X) : Type 0 where
  pub order : IsStrictlySortedBy cmp ascending
  pub members : (x : X) → has cmp ascending x ≡ has cmp xs x

-- the first list where x is Less, the second where it is Equal, the third where it is Greater
abbrev pub by_order : {A : Type 0} → Ordering → A → A → A → A
by_order Less a b c = a
by_order Equal a b c = b
by_order Greater a b c = c

-- x put into an ascending list, unless it is there
unfoldable pub put_once : {X : Type 0} → (X → X → Ordering) → X → List X → List X
put_once cmp x [] = x ∷ []
put_once cmp x (y ∷ ys) = by_order (cmp x y) (x ∷ y ∷ ys) (y ∷ ys) (y ∷ put_once cmp x ys)

-- the members of the list, ascending, each once
unfoldable pub each_once : {X : Type 0} → (X → X → Ordering) → List X → List X
each_once cmp [] = []
each_once cmp (x ∷ xs) = put_once cmp x (each_once cmp xs)
