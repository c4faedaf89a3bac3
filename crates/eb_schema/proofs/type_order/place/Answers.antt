use Rattle.std.proofs.Common.{rules}
use Rattle.std.proofs.lemmas.List.Sorted.{answers_always}
use Rattle.eb_schema.proofs.TypeOrderFacts.{searched}
use Rattle.eb_schema.proofs.type_order.place.Goals as goal

-- the closure gives an item's type
pub returns-clause-place : goal.returns-clause-place
returns-clause-place g c =
    let facts = c.binary_search_by_key.ensures in
    let by_kind = facts.position g.T.Typed.kind_of (answers_always _ _ _ (λ f a r h called. search rules)) in
    searched g.T.Typed.kind_of _ c.args.kind _ c.requires facts.bound (rw c.number.ensures.value at by_kind)
