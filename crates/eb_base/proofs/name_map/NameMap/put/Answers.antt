use Rattle.std.proofs.Common.{ap, sym, ◌∙◌}
use Rattle.std.specs.FinMap as map
use Rattle.eb_base.proofs.MapLaws.{get-lookup, one_put}
use Rattle.eb_base.proofs.NameOrder.{names_total, exact_names}
use Rattle.eb_base.proofs.name_map.NameMap.put.Goals as goal

pub returns-clause-before : goal.returns-clause-before
returns-clause-before g c =
    c.in_ok-insert.ensures.old ∙ sym (get-lookup names_total c.self.inside.inner.entries c.args.name) ∙ ap (λ m. map.get m c.args.name) c.self.view_is

pub returns-clause-ok : goal.returns-clause-ok
returns-clause-ok g c =
    one_put names_total exact_names c.self.inside.inner.entries c.insert.new.self.entries c.args.name c.args.value c.in_ok-insert.ensures.updates.0
    ∙ ap (λ m. map.insert m c.args.name c.args.value) c.self.view_is
