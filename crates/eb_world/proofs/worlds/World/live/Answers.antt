use Rattle.std.proofs.Common.{ap, sym, ◌∙◌}
use Rattle.std.specs.FinMap as finite
use Rattle.eb_world.specs.Beings.{shown}
use Rattle.eb_world.proofs.MapFacts.{len-map_values}
use Rattle.eb_world.proofs.worlds.World.live.Goals as goal

pub returns-clause-count : goal.returns-clause-count
returns-clause-count c =
    c.len.ensures.entries ∙ sym (len-map_values (shown c.self.inside.schema c.self.inside.beings.map) c.self.inside.beings.map) ∙ ap (λ w. finite.len w.live) c.self.view_is
