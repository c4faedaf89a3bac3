use Rattle.std.proofs.Common.{ap, ◌∙◌, take}
use Rattle.std.specs.List.{list_any}
use Rattle.std.specs.Str.{bytes_eq}
use Rattle.eb_schema.specs.Tables.{stands_before}
use Rattle.eb_schema.proofs.TableFacts.{any_within, any_same, texts_turned}
use Rattle.eb_schema.proofs.tables.Table.has_name_before.Goals as goal

pub returns : goal.returns
returns g c =
    c.is_before.ensures ∙ ap (λ first. stands_before first c.args.index) (c.copied.ensures ∙ c.get.ensures.value ∙ c.self.invariant.names c.args.name.now)
    ∙ any_within (λ x. bytes_eq c.args.name.now (g.T.Listed.name_of x)) c.args.index c.self.inside.items
    ∙ any_same (λ x. bytes_eq c.args.name.now (g.T.Listed.name_of x)) (λ x. bytes_eq (g.T.Listed.name_of x) c.args.name.now) (λ x. texts_turned c.args.name.now (g.T.Listed.name_of x)) (take c.args.index c.self.inside.items)
    ∙ ap (λ xs. list_any (λ x. bytes_eq (g.T.Listed.name_of x) c.args.name.now) (take c.args.index xs)) c.self.view_is
