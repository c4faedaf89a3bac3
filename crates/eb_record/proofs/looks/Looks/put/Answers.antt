use Rattle.std.proofs.Common.{ap, ◌∙◌}
use Rattle.std.specs.FinMap as map
use Rattle.eb_base.proofs.MapLaws.{one_put}
use Rattle.eb_record.proofs.LookOrder.{looks_total, exact_looks}
use Rattle.eb_record.proofs.looks.Looks.put.Goals as goal

pub returns-clause-ok : goal.returns-clause-ok
returns-clause-ok c =
    one_put looks_total exact_looks c.self.inside.inner.entries c.insert.new.self.entries c.args.look c.args.id c.in_ok-insert.ensures.updates.0
    ∙ ap (λ m. map.insert m c.args.look c.args.id) c.self.view_is
