use Rattle.std.proofs.Common.{ap, ◌∙◌, ◌++◌, ◌+◌, drop, arith}
use Rattle.eb_query.proofs.Listed.{all_taken, listed_count, next_taken}
use Rattle.eb_query.proofs.listing.listed_names.Goals as goal

pub loop-place-preserved : goal.loop-place-preserved
loop-place-preserved c =
    ap (λ ns. ns ++ drop (c.loop-place.place + 1) c.args.world.now.order) c.in_ok-push.ensures.items
    ∙ next_taken c.loop-place.names.items c.args.world.now.order c.loop-place.place c.name_at.result c.name_at.ensures c.loop-place.invariant

pub returns : goal.returns
returns c =
    let count = listed_count c.args.world.now c.is_whole.ensures in
    all_taken c.loop-place.names.items c.args.world.now.order c.loop-place.place (omega (arith, count, c.live-count.ensures, c.loop-place-test.false)) c.loop-place.invariant
