use Rattle.std.proofs.Common.{◌≡◌, ◌*◌, drop}
use Rattle.std.specs.Prelude.{◌+ℤ◌, ◌≤ℤ◌, pos, neg_ℤ}
use Rattle.eb_eval.specs.Sums.{total}
use Rattle.eb_eval.proofs.sums.total.Given as goal

-- the sum so far, that of the numbers that are left, and room for more
abbrev pub invariant-loop-number : goal.invariant-loop-number
invariant-loop-number l = record {
  sum : l.sum +ℤ total (drop l.number-index l.numbers) ≡ total l.numbers;
  low : neg_ℤ (pos (9223372036854775808 * l.number-index)) ≤ℤ l.sum;
  high : l.sum ≤ℤ pos (9223372036854775808 * l.number-index);
}
