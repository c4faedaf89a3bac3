use Rattle.std.proofs.Common.{◌≡◌, ℕ, ◌≤◌, length, drop, nat_eq, nat_cmp}
use Rattle.std.specs.BTreeMap.{get}
use Rattle.eb_schema.specs.Tables.{first_from}
use Rattle.eb_schema.proofs.tables.numbers_of.Given as goal

abbrev pub invariant-loop-index : goal.invariant-loop-index
invariant-loop-index g l = record {
  within : l.index ≤ length l.items;
  firsts : (q : ℕ) → get nat_cmp l.map q ≡ first_from l.index (λ x. nat_eq (g.T.Listed.number_of x) q) (drop l.index l.items);
}

abbrev pub decreases-loop-index : goal.decreases-loop-index
decreases-loop-index g l = l.index
