use Rattle.std.proofs.Common.{ap, sym, ◌∙◌, ◌++◌, ◌+◌, drop}
use Rattle.eb_world.specs.Worlds.{living_of}
use Rattle.eb_query.specs.Pieces.{fields_from, values_of}
use Rattle.eb_query.proofs.LineFacts.{fields_end, fields_step}
use Rattle.eb_query.proofs.entities.put_fields.Goals as goal

pub returns-in_default : goal.returns-in_default
returns-in_default c =
    fields_end c.loop-index.out.items _ c.loop-index.index c.args.fields.now (values_of (living_of c.args.world.now c.args.entity) c.args.kind)
    (sym c.in_ok-value.ensures ∙ c.in_default.is) c.loop-index.invariant

pub loop-index-preserved : goal.loop-index-preserved
loop-index-preserved c =
    let values = values_of (living_of c.args.world.now c.args.entity) c.args.kind in
    ap (λ o. o ++ fields_from (c.loop-index.index + 1) (drop (c.loop-index.index + 1) c.args.fields.now) (drop (c.loop-index.index + 1) values)) c.in_ok-put_next.ensures
    ∙ fields_step c.loop-index.out.items _ c.loop-index.index c.args.fields.now values c.in-Some-get.field.now c.in-Some.value (sym c.in-Some-get.ensures)
    (sym c.in_ok-value.ensures ∙ c.in-Some.is) c.loop-index.invariant
