use Rattle.std.proofs.Common.{rules}
use Rattle.std.proofs.lemmas.Fn.{always_returns_same}
use Rattle.eb_worker.proofs.finishing.in_order.Goals as goal

pub returns : goal.returns
returns g c = record {
  same = c.sort_by_key.ensures.permutation;
  rises = c.in_ok-sort_by_key.ensures.sorted g.E.Keyed.key_of (always_returns_same _ _ _ (λ a r f' k. search rules));
}
