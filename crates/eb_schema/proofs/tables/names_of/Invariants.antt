use Rattle.std.proofs.Common.{◌≡◌, ℕ, ◌≤◌, List, length, drop}
use Rattle.std.specs.Str.{bytes_eq}
use Rattle.eb_schema.specs.Tables.{first_from, under_name}
use Rattle.eb_schema.proofs.tables.names_of.Given as goal

abbrev pub invariant-loop-index : goal.invariant-loop-index
invariant-loop-index g l = record {
  within : l.index ≤ length l.items;
  firsts : (q : List ℕ) → under_name l.map q ≡ first_from l.index (λ x. bytes_eq q (g.T.Listed.name_of x)) (drop l.index l.items);
}

abbrev pub decreases-loop-index : goal.decreases-loop-index
decreases-loop-index g l = l.index
