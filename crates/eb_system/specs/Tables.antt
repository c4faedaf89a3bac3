-- The totals that are kept beside the entities, so that each is computed once.
use Rattle.std.specs.Prelude.{◌≡◌, ℕ, ℤ, ◌+◌, ◌+ℤ◌, [], Some, IfSome}
use Rattle.std.specs.Option.{unwrap_or}
use Rattle.std.specs.Ordering.{nat_cmp, ordering_then}
use Rattle.std.specs.declared.cmp.Ordering.{Ordering}
use Rattle.std.specs.BTreeMap as tree
use Rattle.std.specs.BTreeMap.{BTreeMap}
use Rattle.eb_schema.specs.BakedEntities.{Entities}
use Rattle.eb_system.specs.declared.totals.SceneTotals.{SceneTotals}
use Rattle.eb_system.specs.declared.totals.Total.{Total}
use Rattle.eb_system.specs.declared.wanted.Summed.{Summed}
use Rattle.eb_system.specs.Totals.{numbers, total_of, greater}

-- with one more number
abbrev pub with_number : Total → ℤ → Total
with_number t z = record { count = t.count + 1; sum = t.sum +ℤ z; greatest = Some (greater t.greatest z) }

abbrev pub total_in : SceneTotals → ℕ → Total
total_in t scene = unwrap_or (tree.get nat_cmp t.by_scene scene) (total_of [])

-- the totals of a field, whatever the scene
abbrev pub AreTotals : Entities → Summed → SceneTotals → Type 0
AreTotals all x t = (scene : ℕ) → total_in t scene ≡ total_of (numbers all scene x.kind x.place)

-- by type, and then by place
abbrev pub summed_cmp : Summed → Summed → Ordering
summed_cmp a b = ordering_then (nat_cmp a.kind b.kind) (nat_cmp a.place b.place)

abbrev pub AreKept : Entities → BTreeMap Summed SceneTotals → Type 0
AreKept all kept = (x : Summed) → IfSome (tree.get summed_cmp kept x) (AreTotals all x)
