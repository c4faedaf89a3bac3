use Rattle.std.proofs.Common.{ap, ◌∙◌, nat_eq}
use Rattle.std.specs.List.{slice_get, find}
use Rattle.std.specs.Option.{option_and_then}
use Rattle.eb_schema.proofs.TableFacts.{first_found}
use Rattle.eb_schema.proofs.tables.Table.numbered.Goals as goal

pub returns : goal.returns
returns g c =
    c.standing.ensures ∙ ap (λ xs. option_and_then (slice_get xs) c.copied.result) c.items.ensures
    ∙ ap (option_and_then (slice_get c.self.inside.items)) (c.copied.ensures ∙ c.get.ensures.value ∙ c.self.invariant.numbers c.args.number)
    ∙ first_found (λ x. nat_eq (g.T.Listed.number_of x) c.args.number) c.self.inside.items ∙ ap (find (λ x. nat_eq (g.T.Listed.number_of x) c.args.number)) c.self.view_is
