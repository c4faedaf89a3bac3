use Rattle.std.proofs.Common.{sym, ap, ◌∙◌}
use Rattle.std.specs.BTreeMap as tree
use Rattle.eb_system.specs.Tables.{summed_cmp}
use Rattle.eb_system.specs.Totals.{numbers, total_of}
use Rattle.eb_system.proofs.KeptFacts.{kept_found}
use Rattle.eb_system.proofs.before.Before.total.Goals as goal

pub returns-in-Some : goal.returns-in-Some
returns-in-Some c =
    c.at.ensures
    ∙ kept_found c.self.inside.entities.now c.args.summed.now (tree.get summed_cmp c.self.inside.totals c.args.summed.now) c.in-Some.totals.now (c.self.invariant c.args.summed.now) (sym c.in-Some.ensures.value) c.args.scene
    ∙ ap (λ all. total_of (numbers all c.args.scene c.args.summed.now.kind c.args.summed.now.place)) c.self.view_is
