use Rattle.std.proofs.Common.{map, ap, sym, ◌∙◌}
use Rattle.std.specs.Prelude.{option_map, Some}
use Rattle.eb_schema.specs.Rows.{kinds_of}
use Rattle.eb_world.specs.Beings.{meaning, shown}
use Rattle.eb_world.specs.Worlds.{Living, living_of}
use Rattle.eb_world.proofs.RowFacts.{kinds_of-cells_of}
use Rattle.eb_world.proofs.Shown.{living_shown}
use Rattle.eb_world.proofs.worlds.World.types_of.Goals as goal

pub returns-in-Some : goal.returns-in-Some
returns-in-Some c =
    ap Some (sym (kinds_of-cells_of c.self.inside.schema c.in-Some.being.now.kinds (map (meaning c.self.inside.beings.map) c.in-Some.being.now.values))) ∙
    ap (λ o. option_map (λ (l : Living). kinds_of l.row) (option_map (shown c.self.inside.schema c.self.inside.beings.map) o)) c.in-Some.ensures
    ∙ ap (option_map (λ (l : Living). kinds_of l.row)) (sym (living_shown c.self.inside.schema c.self.inside.beings.map c.args.entity))
    ∙ ap (λ w. option_map (λ (l : Living). kinds_of l.row) (living_of w c.args.entity)) c.self.view_is

pub returns-in-None : goal.returns-in-None
returns-in-None c =
    ap (λ o. option_map (λ (l : Living). kinds_of l.row) (option_map (shown c.self.inside.schema c.self.inside.beings.map) o)) c.in-None.ensures
    ∙ ap (option_map (λ (l : Living). kinds_of l.row)) (sym (living_shown c.self.inside.schema c.self.inside.beings.map c.args.entity))
    ∙ ap (λ w. option_map (λ (l : Living). kinds_of l.row) (living_of w c.args.entity)) c.self.view_is
