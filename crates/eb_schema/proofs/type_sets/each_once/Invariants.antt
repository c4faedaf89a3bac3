use Rattle.std.proofs.Common.{◌≡◌, ◌≤◌, length, drop}
use Rattle.eb_schema.specs.Rows.{type_set}
use Rattle.eb_schema.proofs.type_sets.each_once.Given as goal

abbrev pub invariant-loop-index : goal.invariant-loop-index
invariant-loop-index l = record {
  within : l.index ≤ length l.kinds;
  set : l.set ≡ type_set (drop l.index l.kinds);
}

abbrev pub decreases-loop-index : goal.decreases-loop-index
decreases-loop-index l = l.index
