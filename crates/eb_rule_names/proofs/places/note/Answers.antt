use Rattle.std.proofs.Common.{ap, sym, ◌∙◌, cond, Some}
use Rattle.std.specs.Prelude.{bytes_eq}
use Rattle.eb_rule_names.specs.Places.{under_name}
use Rattle.eb_rule_names.proofs.PlaceFacts.{name_updates, noted_new}
use Rattle.eb_rule_names.proofs.places.note.Goals as goal

pub returns-clause-ok : goal.returns-clause-ok
returns-clause-ok c =
    noted_new (under_name c.args.places.now) (under_name c.insert.new.self) c.args.name.now c.args.at (sym c.contains_key.ensures ∙ c.if-contains_key.false)
    (λ q. name_updates c.args.places.now c.insert.new.self c.in_ok-name.name.items (Some c.args.at) c.in_ok-insert.ensures.updates q
    ∙ ap (λ t. cond (bytes_eq q t) (Some c.args.at) (under_name c.args.places.now q)) c.in_ok-name.ensures.items)
