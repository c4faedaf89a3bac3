use Rattle.std.proofs.Common.{sym, ap, ◌∙◌, arith}
use Rattle.std.specs.Ordering.{is_ge}
use Rattle.eb_chunk.proofs.MergeFacts.{passed, place_few, stopped}
use Rattle.eb_chunk.proofs.carrying.seek.Goals as goal

pub returns-then-is_ge : goal.returns-then-is_ge
returns-then-is_ge c =
    stopped c.args.kind c.args.field c.args.layout.now c.loop-column.column c.loop-column.invariant (omega (arith, c.loop-column-test.true, c.columns-column-end.ensures.value))
    (ap is_ge (sym c.compare.ensures) ∙ sym c.is_ge.ensures ∙ c.if-is_ge.true)

pub loop-column-preserved : goal.loop-column-preserved
loop-column-preserved c =
    passed c.args.kind c.args.field c.args.layout.now c.loop-column.column c.loop-column.invariant (omega (arith, c.loop-column-test.true, c.columns-column-end.ensures.value))
    (ap is_ge (sym c.compare.ensures) ∙ sym c.is_ge.ensures ∙ c.if-is_ge.false)

pub returns : goal.returns
returns c =
    omega (arith, c.loop-column.invariant, c.loop-column-test.false, c.loop-column.auto.column-end, c.columns-column-end.ensures.value, c.columns.ensures.value, place_few c.args.kind c.args.field c.args.layout.now)
