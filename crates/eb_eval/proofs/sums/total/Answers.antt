use Rattle.std.proofs.Common.{arith}
use Rattle.std.proofs.lemmas.Int.{ints}
use Rattle.eb_eval.proofs.SumFacts.{total_drop}
use Rattle.eb_eval.proofs.sums.total.Goals as goal

pub loop-number-preserved : goal.loop-number-preserved
loop-number-preserved c = let i = c.loop-number.invariant in record {
  sum = omega (arith, ints, i.sum, total_drop c.args.numbers.now c.loop-number.number-index c.loop-number-test.true);
  low = omega (arith, ints, i.low);
  high = omega (arith, ints, i.high);
}
