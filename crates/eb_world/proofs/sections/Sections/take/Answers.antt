use Rattle.std.proofs.Common.{ap, ◌∙◌}
use Rattle.std.specs.FinMap as map
use Rattle.eb_base.proofs.NameOrder.{places_total, exact_places, places_same}
use Rattle.eb_world.proofs.Hashed.{get-hashed, taken-hashed}
use Rattle.eb_world.proofs.sections.Sections.take.Goals as goal

pub returns-clause-taken : goal.returns-clause-taken
returns-clause-taken c =
    c.swap_remove.ensures.value ∙ get-hashed places_total _ places_same c.self.inside.inner.entries c.args.place
    ∙ ap (λ m. map.get m c.args.place) c.self.view_is

pub returns-clause-new : goal.returns-clause-new
returns-clause-new c =
    taken-hashed places_total _ places_same exact_places c.self.inside.inner.entries _ c.args.place c.swap_remove.ensures.updates.0
    ∙ ap (λ m. map.remove m c.args.place) c.self.view_is
