use Rattle.std.proofs.Common.{◌≤◌, length, sym, ◌∙◌, arith}
use Rattle.eb_base.proofs.Ascending.{last_one}
use Rattle.eb_base.proofs.order.ascends.Goals as goal

pub returns : goal.returns
returns g c =
    let over : length c.args.items.now ≤ c.loop-at.at = omega arith in
    sym (last_one g.T.Ord.cmp c.args.items.now c.loop-at.at c.loop-at.invariant.low over) ∙ c.loop-at.invariant.told
