use Rattle.std.proofs.Common.{◌∙◌, rules, subst}
use Rattle.std.specs.List.Sorted.{IsPermutation}
use Rattle.std.proofs.lemmas.List.Filters.{dedup_is}
use Rattle.std.proofs.lemmas.List.Sorted.{answers_always}
use Rattle.eb_eval.specs.Keys.{place_of}
use Rattle.eb_eval.proofs.KeysInOrder.{put_in_order}
use Rattle.eb_eval.proofs.key_order.in_order.Goals as goal

pub returns : goal.returns
returns c =
    let sorted = c.sort_unstable_by_key.ensures.sorted place_of (answers_always _ _ _ (λ f a r g h. search rules)) in
    let moved = subst (λ ks. IsPermutation ks c.sort_unstable_by_key.new.self.items) c.into_vec-keys.ensures c.sort_unstable_by_key.ensures.permutation in
    c.of.ensures ∙ dedup_is _ _ _ c.dedup.ensures.filtered ∙ put_in_order c.args.keys _ moved sorted
