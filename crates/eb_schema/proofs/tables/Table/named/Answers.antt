use Rattle.std.proofs.Common.{ap, ◌∙◌}
use Rattle.std.specs.List.{slice_get, find}
use Rattle.std.specs.Option.{option_and_then}
use Rattle.std.specs.Str.{bytes_eq}
use Rattle.eb_schema.proofs.TableFacts.{first_found}
use Rattle.eb_schema.proofs.tables.Table.named.Goals as goal

pub returns : goal.returns
returns g c =
    c.standing.ensures ∙ ap (λ xs. option_and_then (slice_get xs) c.copied.result) c.items.ensures
    ∙ ap (option_and_then (slice_get c.self.inside.items)) (c.copied.ensures ∙ c.get.ensures.value ∙ c.self.invariant.names c.args.name.now)
    ∙ first_found (λ x. bytes_eq c.args.name.now (g.T.Listed.name_of x)) c.self.inside.items ∙ ap (find (λ x. bytes_eq c.args.name.now (g.T.Listed.name_of x))) c.self.view_is
