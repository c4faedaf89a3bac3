use Rattle.std.proofs.Common.{rules}
use Rattle.eb_eval.proofs.sights.RunReadsReads.read.Goals as goal

pub returns-in_ok-sum-in-Sum : goal.returns-in_ok-sum-in-Sum
returns-in_ok-sum-in-Sum c = rw c.in-Sum.is c.in_ok-sum-in-Sum.ensures

pub returns-in_err-sum-in-Sum : goal.returns-in_err-sum-in-Sum
returns-in_err-sum-in-Sum c = rw c.in-Sum.is (search rules)

pub returns-in_ok-count-in-Count : goal.returns-in_ok-count-in-Count
returns-in_ok-count-in-Count c = rw c.in-Count.is c.in_ok-count-in-Count.ensures

pub returns-in_err-count-in-Count : goal.returns-in_err-count-in-Count
returns-in_err-count-in-Count c = rw c.in-Count.is (search rules)
