use Rattle.std.proofs.Common.{ap, ◌∙◌, nat_eq, take}
use Rattle.std.specs.List.{list_any}
use Rattle.eb_schema.specs.Tables.{stands_before}
use Rattle.eb_schema.proofs.TableFacts.{any_within}
use Rattle.eb_schema.proofs.tables.Table.has_number_before.Goals as goal

pub returns : goal.returns
returns g c =
    c.is_before.ensures ∙ ap (λ first. stands_before first c.args.index) (c.copied.ensures ∙ c.get.ensures.value ∙ c.self.invariant.numbers c.args.number)
    ∙ any_within (λ x. nat_eq (g.T.Listed.number_of x) c.args.number) c.args.index c.self.inside.items
    ∙ ap (λ xs. list_any (λ x. nat_eq (g.T.Listed.number_of x) c.args.number) (take c.args.index xs)) c.self.view_is
