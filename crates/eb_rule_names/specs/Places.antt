-- A map from each name to the place of the first that has it.
use Rattle.std.specs.Prelude.{◌≡◌, ℕ, ◌==◌, cond, List, Option, Some, None, bytes_eq, Vec}
use Rattle.std.specs.{Ordering.nat_cmp, List.position_from, BTreeMap.BTreeMap, BTreeMap.get_by, Cmp.Lexicographic.slice_cmp, declared.alloc.Global.Global}

-- what a map has under a name
abbrev pub under_name : BTreeMap (Vec ℕ Global) ℕ → List ℕ → Option ℕ
under_name map name = get_by (λ k. slice_cmp nat_cmp name k.items) map

-- a place that isn't this one
abbrev pub other_than : ℕ → Option ℕ → Option ℕ
other_than at None = None
other_than at (Some i) = cond (i == at) None (Some i)

-- the map leads from each name to the first of the list that has it, and from other names nowhere
abbrev pub LeadsToFirst : {V : Type 0} → (V → List ℕ) → List V → BTreeMap (Vec ℕ Global) ℕ → Type 0
LeadsToFirst name_of names places = (q : List ℕ) → under_name places q ≡ position_from (λ v. bytes_eq q (name_of v)) 0 names
