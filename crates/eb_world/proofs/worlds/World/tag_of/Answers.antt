use Rattle.std.proofs.Common.{ap, sym, ◌∙◌}
use Rattle.std.specs.Prelude.{option_map}
use Rattle.eb_world.specs.Beings.{shown}
use Rattle.eb_world.specs.Worlds.{Living, living_of}
use Rattle.eb_world.proofs.Shown.{living_shown}
use Rattle.eb_world.proofs.worlds.World.tag_of.Goals as goal

pub returns-in-Some : goal.returns-in-Some
returns-in-Some c =
    ap (λ o. option_map (λ (l : Living). l.tag) (option_map (shown c.self.inside.schema c.self.inside.beings.map) o)) c.in-Some.ensures
    ∙ ap (option_map (λ (l : Living). l.tag)) (sym (living_shown c.self.inside.schema c.self.inside.beings.map c.args.entity))
    ∙ ap (λ w. option_map (λ (l : Living). l.tag) (living_of w c.args.entity)) c.self.view_is

pub returns-in-None : goal.returns-in-None
returns-in-None c =
    ap (λ o. option_map (λ (l : Living). l.tag) (option_map (shown c.self.inside.schema c.self.inside.beings.map) o)) c.in-None.ensures
    ∙ ap (option_map (λ (l : Living). l.tag)) (sym (living_shown c.self.inside.schema c.self.inside.beings.map c.args.entity))
    ∙ ap (λ w. option_map (λ (l : Living). l.tag) (living_of w c.args.entity)) c.self.view_is
