use Rattle.std.proofs.Common.{ap, ◌∙◌}
use Rattle.std.specs.FinMap as map
use Rattle.eb_base.proofs.MapLaws.{one_taken}
use Rattle.eb_record.proofs.LookOrder.{looks_total, exact_looks}
use Rattle.eb_record.proofs.looks.Looks.take.Goals as goal

pub returns : goal.returns
returns c =
    one_taken looks_total exact_looks c.self.inside.inner.entries c.remove.new.self.entries c.args.look.now c.remove.ensures.updates.0
    ∙ ap (λ m. map.remove m c.args.look.now) c.self.view_is
