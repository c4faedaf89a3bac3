use Rattle.std.proofs.Common.{ap, sym, ◌∙◌}
use Rattle.std.specs.Prelude.{Some, option_map}
use Rattle.eb_world.specs.Beings.{meaning}
use Rattle.eb_world.proofs.Shown.{value_shown}
use Rattle.eb_world.proofs.beings.value_of.Goals as goal

pub returns-in-Some : goal.returns-in-Some
returns-in-Some c =
    ap Some c.meaning.ensures ∙ ap (option_map (meaning c.args.beings.now.map)) c.in-Some.ensures
    ∙ sym (value_shown c.args.schema.now (meaning c.args.beings.now.map) c.args.being.now.kinds c.args.being.now.values c.args.kind c.args.field)

pub returns-in-None : goal.returns-in-None
returns-in-None c =
    ap (option_map (meaning c.args.beings.now.map)) c.in-None.ensures
    ∙ sym (value_shown c.args.schema.now (meaning c.args.beings.now.map) c.args.being.now.kinds c.args.being.now.values c.args.kind c.args.field)
