use Rattle.std.proofs.Common.{Bool, ap, ◌∙◌}
use Rattle.std.specs.Prelude.{bytes_eq}
use Rattle.std.specs.List.{slice_get, find}
use Rattle.std.specs.Option.{option_and_then}
use Rattle.eb_rule_names.proofs.PlaceFacts.{found_is}
use Rattle.eb_rule_names.proofs.visible.VisibleNames.find.Goals as goal

pub returns : goal.returns
returns g c =
    let names = c.self.inside.names.items in
    let test : g.row.V.Denot → Bool = λ v. bytes_eq c.args.name.now (g.V.Named.name_of v) in
    c.standing.ensures ∙ ap (λ xs. option_and_then (slice_get xs) c.copied.result) c.as_slice.ensures.value
    ∙ ap (option_and_then (slice_get names)) (c.copied.ensures ∙ c.get.ensures.value ∙ c.self.invariant c.args.name.now)
    ∙ found_is test names ∙ ap (find test) c.self.view_is
