use Rattle.std.proofs.Common.{ap, subst, sym, ◌∙◌, nat_eq}
use Rattle.std.specs.List.{list_any}
use Rattle.std.specs.List.Sorted.{IsStrictlySortedBy}
use Rattle.std.specs.Ordering.{nat_cmp}
use Rattle.eb_schema.proofs.TypeOrderFacts.{has_placed}
use Rattle.eb_schema.proofs.SetFacts.{map_same}
use Rattle.eb_schema.proofs.type_sets.TypeSet.has.Goals as goal

pub returns : goal.returns
returns c =
    c.is_ok.ensures.value
    ∙ has_placed (λ k. k) c.args.kind c.self.inside.kinds c.place.result (subst (IsStrictlySortedBy nat_cmp) (sym (map_same c.self.inside.kinds)) c.self.invariant.order)
    (rw c.items.ensures at c.place.ensures.bound) (rw c.items.ensures at c.place.ensures.place)
    ∙ ap (list_any (λ k. nat_eq k c.args.kind)) c.self.view_is
