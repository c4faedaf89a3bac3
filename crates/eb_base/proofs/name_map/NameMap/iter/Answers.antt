use Rattle.std.proofs.Common.{ap, sym, ◌∙◌}
use Rattle.std.specs.FinMap as map
use Rattle.eb_base.proofs.MapLaws.{entries-from_entries}
use Rattle.eb_base.proofs.NameOrder.{names_total, exact_names}
use Rattle.eb_base.proofs.name_map.NameMap.iter.Goals as goal

pub returns-clause-rest : goal.returns-clause-rest
returns-clause-rest g c =
    c.iter.ensures.rest ∙ sym (entries-from_entries names_total exact_names c.self.inside.inner.entries c.iter.ensures.ordered) ∙ ap map.entries c.self.view_is
