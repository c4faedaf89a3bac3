use Rattle.std.proofs.Common.{◌≡◌, [], map}
use Rattle.std.specs.List.{fold}
use Rattle.std.specs.List.Sorted.{IsStrictlySortedBy}
use Rattle.std.specs.Ordering.{nat_cmp}
use Rattle.eb_system.specs.Stages.{with_added}
use Rattle.eb_system.proofs.filling.fill.Given as goal

-- the components so far
abbrev pub invariant-loop-cell : goal.invariant-loop-cell
invariant-loop-cell l = record {
  so_far : l.done ≡ fold with_added (record { row = l.fn.row; left = [] }) l.yielded;
  order : IsStrictlySortedBy nat_cmp (map (λ k. k) l.done.left);
}
