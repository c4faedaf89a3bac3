-- Maps that are made from maps, and whether a list ascends.
use Rattle.std.specs.Prelude.{Bool, true, cond, ◌&&◌, List, [], ◌∷◌, map, Option, Some, None, is_some}
use Rattle.std.specs.FinMap.{FinMap, entries, from_sorted, get, retain_keys}
use Rattle.std.specs.Ordering.{is_lt}
use Rattle.std.specs.declared.cmp.Ordering.{Ordering}

-- f at each value
abbrev pub map_values : {K X Y : Type 0} {R : K → K → Ordering} → (X → Y) → FinMap R X → FinMap R Y
map_values {K} {X} {Y} {R} f m = from_sorted {R = R} (map {B = K × Y} (λ (e : K × X). (e.0, f e.1)) (entries m))

-- the value, where it passes a test
abbrev pub passing : {X : Type 0} → (X → Bool) → Option X → Option X
passing p None = None
passing p (Some x) = cond (p x) (Some x) None

-- the entries whose values pass a test
abbrev pub kept_values : {K X : Type 0} {R : K → K → Ordering} → (X → Bool) → FinMap R X → FinMap R X
kept_values p m = retain_keys m (λ k. is_some (passing p (get m k)))

-- each item is less than the next one
abbrev pub is_ascending : {X : Type 0} → (X → X → Ordering) → List X → Bool
is_ascending R [] = true
is_ascending R (x ∷ []) = true
is_ascending R (x ∷ (y ∷ ys)) = is_lt (R x y) && is_ascending R (y ∷ ys)
