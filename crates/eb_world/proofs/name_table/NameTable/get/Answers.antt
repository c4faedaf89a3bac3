use Rattle.std.proofs.Common.{ap, ◌∙◌}
use Rattle.std.specs.FinMap as map
use Rattle.eb_base.proofs.NameOrder.{names_total, names_same}
use Rattle.eb_world.proofs.Hashed.{get-hashed}
use Rattle.eb_world.proofs.name_table.NameTable.get.Goals as goal

pub returns : goal.returns
returns g c =
    c.get.ensures.value ∙ get-hashed names_total _ names_same c.self.inside.inner.entries c.args.name.now
    ∙ ap (λ t. map.get t.map c.args.name.now) c.self.view_is
