use Rattle.std.proofs.Common.{ap, sym, subst, ◌∙◌, ◌<◌, T}
use Rattle.std.specs.FinMap as map
use Rattle.eb_base.proofs.NameOrder.{names_total, exact_names, names_same}
use Rattle.eb_world.proofs.Hashed.{get-hashed, counted-hashed}
use Rattle.eb_world.proofs.name_table.NameTable.at.Goals as goal

pub unreachable-requires : goal.unreachable-requires
unreachable-requires g c =
    let count = counted-hashed names_total exact_names _ names_same c.self.inside.inner.entries c.len-count.ensures.unique ∙ ap (λ t. map.len t.map) c.self.view_is in
    subst T (sym (c.in_default.ensures.found.1 (subst (λ n. c.args.place < n) (sym count) c.requires))) tt

pub returns-clause-value : goal.returns-clause-value
returns-clause-value g c =
    ap (λ t. map.get t.map c.in-Some.name.now) (sym c.self.view_is)
    ∙ sym (get-hashed names_total _ names_same c.self.inside.inner.entries c.in-Some.name.now) ∙ c.in-Some.ensures.value
