use Rattle.std.proofs.Common.{ap, ◌∙◌, take}
use Rattle.std.specs.List.{list_any}
use Rattle.eb_schema.specs.Tables.{stands_before}
use Rattle.eb_schema.specs.SchemaTests.{is_named}
use Rattle.eb_schema.proofs.TableFacts.{any_within}
use Rattle.eb_schema.proofs.authoring_drafts.AuthoringDrafts.is_copied_before.Goals as goal

pub returns : goal.returns
returns c =
    c.is_before.ensures ∙ ap (λ first. stands_before first c.args.index) (c.copied.ensures ∙ c.get.ensures.value ∙ c.self.invariant c.args.name.now)
    ∙ any_within (λ a. is_named c.args.name.now a.copy.value) c.args.index c.self.inside.table
    ∙ ap (λ xs. list_any (λ a. is_named c.args.name.now a.copy.value) (take c.args.index xs)) c.self.view_is
