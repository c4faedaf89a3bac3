use Rattle.std.proofs.Common.{ap, sym, ◌∙◌}
use Rattle.std.specs.FinMap as map
use Rattle.std.specs.List.{filter}
use Rattle.std.specs.Ordering.{eq_by_cmp}
use Rattle.eb_base.specs.Names.{name_cmp}
use Rattle.eb_base.proofs.MapLaws.{entries-from_entries}
use Rattle.eb_record.specs.Readers.{looks_under}
use Rattle.eb_record.proofs.LookOrder.{looks_total, exact_looks}
use Rattle.eb_record.proofs.UnderFacts.{all_under}
use Rattle.eb_record.proofs.looks.Looks.at.Goals as goal

pub returns-clause-rest : goal.returns-clause-rest
returns-clause-rest c =
    let key = c.key_name-key.result in
    let all = c.self.inside.inner.entries in
    (rw c.behind.ensures at (c.range.ensures.between tt))
    ∙ all_under key all
    ∙ ap (filter (λ e. eq_by_cmp name_cmp key e.0.key)) (sym (entries-from_entries looks_total exact_looks all c.range.ensures.ordered) ∙ ap map.entries c.self.view_is)
    ∙ ap (looks_under c.args.self.now) c.key_name-key.ensures.name
