use Rattle.std.proofs.Common.{◌∙◌}
use Rattle.eb_base.proofs.NameOrder.{names_total, exact_names}
use Rattle.eb_schema.proofs.EntityMaps.{put_all, put_all-entries}
use Rattle.eb_schema.proofs.baked.Baked.copy.Goals as goal

pub loop-name-init : goal.loop-name-init
loop-name-init c =
    let left = c.into_iter-name-iterator.ensures.into_iter_gives ∙ c.iter-name-items.ensures.rest in
    (λ i. put_all (c.open-baked.ensures i) (left i)) ∙ put_all-entries names_total exact_names c.args.self.now
