use Rattle.std.proofs.Common.{ap, drop, ◌+◌}
use Rattle.eb_rules.proofs.Gathered.{gather_next, gathered_many, item_next}
use Rattle.eb_rules.proofs.bakers.bakers_by_type.Goals as goal

pub loop-slot-preserved : goal.loop-slot-preserved
loop-slot-preserved c =
    let all = c.args.bakers.now in
    let i = c.loop-slot.slot-index in record {
      at = ap (λ n. n + 1) c.loop-slot.invariant.at;
      many = gathered_many _ _ _ _ c.loop-slot.invariant.many c.in_ok-gather.ensures;
      rest = gather_next (c.loop-slot.number + 1) c.slot-item.result (drop i all) (drop (i + 1) all) _ _ all (item_next all i _ c.loop-slot-test.true c.slot-item.is) c.loop-slot.invariant.many c.in_ok-gather.ensures c.loop-slot.invariant.rest;
    }
