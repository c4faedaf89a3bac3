use Rattle.std.proofs.Common.{arith}
use Rattle.std.proofs.lemmas.Int.{ints}
use Rattle.eb_chunk.specs.Columns.{numbers}
use Rattle.eb_chunk.proofs.ColumnFacts.{length-numbers, total_drop, total_end}
use Rattle.eb_chunk.proofs.views.sum_of.Goals as goal

pub loop-row-init : goal.loop-row-init
loop-row-init c = (omega (arith, ints), omega (arith, ints), omega (arith, ints))

pub overflow_add-sum : goal.overflow_add-sum
overflow_add-sum c = omega (arith, ints, c.loop-row.invariant.1, c.loop-row.invariant.2, c.number_at.ensures.fits, c.loop-row-test.true, c.requires.few)

pub loop-row-preserved : goal.loop-row-preserved
loop-row-preserved c =
    let list = numbers c.args.width c.args.rows c.args.bytes.now in let count = length-numbers c.args.width c.args.rows c.args.bytes.now in
    let inv = c.loop-row.invariant in let fits = c.number_at.ensures.fits in
    (omega (arith, ints, inv.0, total_drop list c.loop-row.row (omega (arith, count, c.loop-row-test.true)), c.number_at.ensures.value), omega (arith, ints, inv.1, fits), omega (arith, ints, inv.2, fits))

pub returns : goal.returns
returns c =
    let list = numbers c.args.width c.args.rows c.args.bytes.now in let count = length-numbers c.args.width c.args.rows c.args.bytes.now in
    omega (arith, ints, c.loop-row.invariant.0, total_end list c.loop-row.row (omega (arith, count, c.loop-row-test.false)))
