use Rattle.std.proofs.Common.{rules}
use Rattle.eb_eval.proofs.sights.RunReadsReads.find.Goals as goal

pub returns-in_ok-found-in-Min : goal.returns-in_ok-found-in-Min
returns-in_ok-found-in-Min c = rw c.in-Min.is c.in_ok-found-in-Min.ensures

pub returns-in_err-found-in-Min : goal.returns-in_err-found-in-Min
returns-in_err-found-in-Min c = rw c.in-Min.is (search rules)

pub returns-in_ok-found-in-Max : goal.returns-in_ok-found-in-Max
returns-in_ok-found-in-Max c = rw c.in-Max.is c.in_ok-found-in-Max.ensures

pub returns-in_err-found-in-Max : goal.returns-in_err-found-in-Max
returns-in_err-found-in-Max c = rw c.in-Max.is (search rules)
