use Rattle.std.proofs.Common.{ap, sym, ◌∙◌}
use Rattle.std.specs.FinMap as map
use Rattle.eb_base.proofs.MapLaws.{get-lookup}
use Rattle.eb_base.proofs.NameOrder.{names_total}
use Rattle.eb_base.proofs.name_map.NameMap.get.Goals as goal

pub returns : goal.returns
returns g c =
    c.get.ensures.value ∙ sym (get-lookup names_total c.self.inside.inner.entries c.args.name.now) ∙ ap (λ m. map.get m c.args.name.now) c.self.view_is
