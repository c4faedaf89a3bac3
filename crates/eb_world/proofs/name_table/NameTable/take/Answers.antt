use Rattle.std.proofs.Common.{ap, ◌∙◌}
use Rattle.std.specs.FinMap as map
use Rattle.eb_base.proofs.NameOrder.{names_total, exact_names, names_same}
use Rattle.eb_world.proofs.Hashed.{get-hashed, taken-hashed}
use Rattle.eb_world.proofs.name_table.NameTable.take.Goals as goal

pub returns-clause-value : goal.returns-clause-value
returns-clause-value g c =
    c.swap_remove.ensures.value ∙ get-hashed names_total _ names_same c.self.inside.inner.entries c.args.name.now
    ∙ ap (λ t. map.get t.map c.args.name.now) c.self.view_is

pub returns-clause-map : goal.returns-clause-map
returns-clause-map g c =
    taken-hashed names_total _ names_same exact_names c.self.inside.inner.entries _ c.args.name.now c.swap_remove.ensures.updates.0
    ∙ ap (λ t. map.remove t.map c.args.name.now) c.self.view_is
