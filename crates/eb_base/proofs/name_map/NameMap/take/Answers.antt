use Rattle.std.proofs.Common.{ap, sym, ◌∙◌}
use Rattle.std.specs.FinMap as map
use Rattle.eb_base.proofs.MapLaws.{get-lookup, one_taken}
use Rattle.eb_base.proofs.NameOrder.{names_total, exact_names}
use Rattle.eb_base.proofs.name_map.NameMap.take.Goals as goal

pub returns-clause-before : goal.returns-clause-before
returns-clause-before g c =
    c.remove.ensures.value ∙ sym (get-lookup names_total c.self.inside.inner.entries c.args.name.now) ∙ ap (λ m. map.get m c.args.name.now) c.self.view_is

pub returns-clause-taken : goal.returns-clause-taken
returns-clause-taken g c =
    one_taken names_total exact_names c.self.inside.inner.entries c.remove.new.self.entries c.args.name.now c.remove.ensures.updates.0
    ∙ ap (λ m. map.remove m c.args.name.now) c.self.view_is
