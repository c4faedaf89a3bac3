use Rattle.std.proofs.Common.{ap, sym, ◌∙◌}
use Rattle.std.specs.Prelude.{option_map, option_and_then}
use Rattle.eb_world.specs.Beings.{shown}
use Rattle.eb_world.specs.Worlds.{Living, living_of, value_of}
use Rattle.eb_world.proofs.Shown.{living_shown, kept_at}
use Rattle.eb_world.proofs.worlds.World.value.Goals as goal

pub returns-in_err-being : goal.returns-in_err-being
returns-in_err-being c =
    c.from_residual.ensures
    ∙ ap (λ o. option_and_then (λ (l : Living). value_of l.row c.args.kind c.args.field) (option_map (shown c.self.inside.schema c.self.inside.beings.map) o)) c.in_err-being.ensures
    ∙ ap (option_and_then (λ (l : Living). value_of l.row c.args.kind c.args.field)) (sym (living_shown c.self.inside.schema c.self.inside.beings.map c.args.entity))
    ∙ ap (λ w. option_and_then (λ (l : Living). value_of l.row c.args.kind c.args.field) (living_of w c.args.entity)) c.self.view_is

pub value_of-requires : goal.value_of-requires
value_of-requires c =
    let k = kept_at c.self.inside.beings.map c.args.entity c.in_ok-being.being.now (sym c.in_ok-being.ensures) in
    (c.self.invariant.each k.name c.in_ok-being.being.now k.found).values

pub returns : goal.returns
returns c =
    c.value_of.ensures
    ∙ ap (λ o. option_and_then (λ (l : Living). value_of l.row c.args.kind c.args.field) (option_map (shown c.self.inside.schema c.self.inside.beings.map) o)) c.in_ok-being.ensures
    ∙ ap (option_and_then (λ (l : Living). value_of l.row c.args.kind c.args.field)) (sym (living_shown c.self.inside.schema c.self.inside.beings.map c.args.entity))
    ∙ ap (λ w. option_and_then (λ (l : Living). value_of l.row c.args.kind c.args.field) (living_of w c.args.entity)) c.self.view_is
