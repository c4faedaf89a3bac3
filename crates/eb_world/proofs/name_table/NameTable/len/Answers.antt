use Rattle.std.proofs.Common.{ap, subst, ◌∙◌}
use Rattle.std.specs.FinMap as map
use Rattle.std.specs.List.Sorted.{IsPermutation}
use Rattle.eb_base.proofs.NameOrder.{names_total, exact_names, names_same}
use Rattle.eb_world.proofs.Hashed.{listed-hashed, counted-hashed}
use Rattle.eb_world.proofs.name_table.NameTable.len.Goals as goal

pub returns-clause-entries : goal.returns-clause-entries
returns-clause-entries g c =
    c.len.ensures.len ∙ counted-hashed names_total exact_names _ names_same c.self.inside.inner.entries c.len.ensures.unique
    ∙ ap (λ t. map.len t.map) c.self.view_is

pub returns-clause-order : goal.returns-clause-order
returns-clause-order g c =
    subst (λ t. IsPermutation (map.keys t.map) t.order) c.self.view_is
    (listed-hashed names_total exact_names _ names_same c.self.inside.inner.entries c.len.ensures.unique)
