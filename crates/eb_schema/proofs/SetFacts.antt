-- Sets of types: what goes into one, one type after the other.
use Rattle.std.proofs.Common.{◌≡◌, ℕ, ◌≤◌, List, [], ◌∷◌, length, map, refl, sym, ap, arith, subst}
use Rattle.std.proofs.lemmas.List.{length-map}
use Rattle.std.specs.List.Sorted.{IsStrictlySortedBy}
use Rattle.std.specs.Ordering.{nat_cmp}
use Rattle.eb_schema.specs.declared.rows.Cell.{Cell}
use Rattle.eb_schema.specs.Rows.{most_kinds, kinds_of, type_set, IsRow, IsTypeSet}
use Rattle.eb_schema.proofs.TypeOrderFacts.{sorted_with}

pub map_same : (ks : List ℕ) → map (λ j. j) ks ≡ ks
map_same [] = refl
map_same (k ∷ ks) = ap (λ js. k ∷ js) (map_same ks)

-- a set ascends
pub ascends_set : (ks : List ℕ) → IsStrictlySortedBy nat_cmp (type_set ks)
unfolding IsStrictlySortedBy
ascends_set [] = tt
ascends_set (k ∷ ks) =
    let sorted = sorted_with (λ j. j) k (type_set ks) (subst (IsStrictlySortedBy nat_cmp) (sym (map_same (type_set ks))) (ascends_set ks)) in
    subst (IsStrictlySortedBy nat_cmp) (map_same (type_set (k ∷ ks))) sorted

pub is_set : (ks set : List ℕ) → set ≡ type_set ks → length set ≤ most_kinds → IsTypeSet set
is_set ks set is few = record { order = rw is (ascends_set ks); few = few }

-- a row's types are a set
pub set_of_row : (row : List Cell) → IsRow row → IsTypeSet (kinds_of row)
set_of_row row is_row = record { order = is_row.order; few = omega (arith, is_row.few, length-map row (λ (c : Cell). c.kind)) }
