use Rattle.std.proofs.Common.{ap, sym, ◌∙◌}
use Rattle.std.specs.Prelude.{is_some, option_map}
use Rattle.std.specs.FinMap as finite
use Rattle.eb_base.proofs.MapLaws.{get-map_values}
use Rattle.eb_world.specs.declared.beings.Being.{Being}
use Rattle.eb_world.specs.Beings.{shown}
use Rattle.eb_world.proofs.MapFacts.{contains-map_values}
use Rattle.eb_world.proofs.worlds.World.find.Goals as goal

pub returns-in-Some-clause-handle : goal.returns-in-Some-clause-handle
returns-in-Some-clause-handle c =
    ap (option_map (λ (b : Being). b.entity)) c.in-Some.ensures ∙ sym (get-map_values (λ (b : Being). b.entity) c.self.inside.beings.map c.args.name.now)
    ∙ ap (λ w. finite.get w.handles c.args.name.now) c.self.view_is

pub returns-in-Some-clause-lives : goal.returns-in-Some-clause-lives
returns-in-Some-clause-lives c =
    ap is_some c.in-Some.ensures ∙ sym (contains-map_values (shown c.self.inside.schema c.self.inside.beings.map) c.self.inside.beings.map c.args.name.now)
    ∙ ap (λ w. finite.contains_key w.live c.args.name.now) c.self.view_is

pub returns-in-None-clause-handle : goal.returns-in-None-clause-handle
returns-in-None-clause-handle c =
    ap (option_map (λ (b : Being). b.entity)) c.in-None.ensures ∙ sym (get-map_values (λ (b : Being). b.entity) c.self.inside.beings.map c.args.name.now)
    ∙ ap (λ w. finite.get w.handles c.args.name.now) c.self.view_is

pub returns-in-None-clause-lives : goal.returns-in-None-clause-lives
returns-in-None-clause-lives c =
    ap is_some c.in-None.ensures ∙ sym (contains-map_values (shown c.self.inside.schema c.self.inside.beings.map) c.self.inside.beings.map c.args.name.now)
    ∙ ap (λ w. finite.contains_key w.live c.args.name.now) c.self.view_is
