use Rattle.std.proofs.Common.{ap, sym, subst, ◌<◌, ◌∙◌}
use Rattle.std.specs.Prelude.{option_map, option_and_then, slice_get}
use Rattle.std.specs.FinMap as finite
use Rattle.eb_base.proofs.MapLaws.{get-map_values}
use Rattle.eb_world.specs.declared.beings.Being.{Being}
use Rattle.eb_world.specs.Beings.{shown, handles_of}
use Rattle.eb_world.proofs.MapFacts.{len-map_values}
use Rattle.eb_world.proofs.worlds.World.at.Goals as goal

pub at-requires : goal.at-requires
at-requires c =
    subst (λ n. c.args.place < n)
    (ap (λ w. finite.len w.live) (sym c.self.view_is) ∙ len-map_values (shown c.self.inside.schema c.self.inside.beings.map) c.self.inside.beings.map) c.requires

pub returns : goal.returns
returns c =
    ap (λ w. option_and_then (finite.get w.handles) (slice_get w.order c.args.place)) (sym c.self.view_is)
    ∙ ap (option_and_then (finite.get (handles_of c.self.inside.beings.map))) c.at.ensures.order
    ∙ get-map_values (λ (b : Being). b.entity) c.self.inside.beings.map c.at.result.0
    ∙ ap (option_map (λ (b : Being). b.entity)) c.at.ensures.value
