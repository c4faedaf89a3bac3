use Rattle.std.proofs.Common.{ap, ◌∙◌}
use Rattle.std.specs.FinMap as map
use Rattle.eb_base.proofs.NameOrder.{names_total, exact_names, names_same}
use Rattle.eb_world.proofs.Hashed.{put-hashed}
use Rattle.eb_world.proofs.name_table.NameTable.add.Goals as goal

pub returns-clause-map : goal.returns-clause-map
returns-clause-map g c =
    put-hashed names_total _ names_same exact_names c.self.inside.inner.entries _ c.args.name c.args.value c.in-Ok.ensures.updates.0
    ∙ ap (λ t. map.insert t.map c.args.name c.args.value) c.self.view_is
