use Rattle.std.proofs.Common.{sym, ◌∙◌, None}
use Rattle.eb_rule_names.specs.Places.{under_name}
use Rattle.eb_rule_names.proofs.PlaceFacts.{name_updates, is_place, forgotten}
use Rattle.eb_rule_names.proofs.places.forget.Goals as goal

pub returns-then-eq : goal.returns-then-eq
returns-then-eq c =
    forgotten (under_name c.args.places.now) (under_name c.remove.new.self) c.args.name.now c.args.at
    (sym (c.copied.ensures ∙ c.get.ensures.value) ∙ is_place c.copied.result c.args.at (sym c.eq.ensures ∙ c.if-eq.true))
    (name_updates c.args.places.now c.remove.new.self c.args.name.now None c.remove.ensures.updates)
