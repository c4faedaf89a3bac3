use Rattle.std.proofs.Common.{◌≡◌, ◌++◌, drop}
use Rattle.eb_bake.proofs.renewing.put_issues.Given as goal

-- those so far, and those that are left
abbrev pub invariant-loop-issue : goal.invariant-loop-issue
invariant-loop-issue l = l.out ++ drop l.issue-index l.issues ≡ l.fn.out ++ l.fn.issues
