use Rattle.std.proofs.Common.{rules, ◌≡◌, Ok, ◌∙◌, ap}
use Rattle.eb_rule_text.specs.Input.{name}
use Rattle.eb_rule_text.specs.Blocks.{names_from}
use Rattle.eb_rule_text.proofs.NameRuns.{never_refused, names_stop, names_go, shorter}
use Rattle.eb_rule_text.proofs.queries.names_from.Goals as goal

pub returns-in_err-name : goal.returns-in_err-name
returns-in_err-name c = search (rules, never_refused)

pub names-smaller : goal.names-smaller
names-smaller c = shorter c.names.tokens c.name.new.self c.in_ok-name.name (search rules)

pub names-preserved : goal.names-preserved
names-preserved c =
    let taken : name c.names.tokens ≡ Ok (c.in_ok-name.name, c.name.new.self) = search rules in
    c.names.invariant ∙ names_go c.names.done _ _ _ taken ∙ ap (λ d. names_from d c.name.new.self) (search rules)

pub returns : goal.returns
returns c = c.names.invariant ∙ names_stop _ _ (search rules)
