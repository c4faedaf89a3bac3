use Rattle.std.proofs.Common.{length, ap, sym, ◌∙◌}
use Rattle.std.specs.FinMap as map
use Rattle.eb_base.proofs.MapLaws.{entries-from_entries}
use Rattle.eb_base.proofs.NameOrder.{names_total, exact_names}
use Rattle.eb_base.proofs.name_map.NameMap.len.Goals as goal

pub returns : goal.returns
returns g c =
    c.len.ensures.len ∙ sym (ap length (entries-from_entries names_total exact_names c.self.inside.inner.entries c.len.ensures.ordered))
    ∙ sym (map.len-entries _) ∙ ap map.len c.self.view_is
