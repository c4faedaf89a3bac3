-- ascends: what is left from the last item on decides
use Rattle.std.proofs.Common.{◌≡◌, ◌-◌, ◌≤◌, drop}
use Rattle.eb_base.specs.Maps.{is_ascending}
use Rattle.eb_base.proofs.order.ascends.Given as goal

abbrev pub invariant-loop-at : goal.invariant-loop-at
invariant-loop-at g l = record {
  low : 1 ≤ l.at;
  told : is_ascending g.T.Ord.cmp (drop (l.at - 1) l.items) ≡ is_ascending g.T.Ord.cmp l.items;
}
