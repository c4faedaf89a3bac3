use Rattle.std.proofs.Common.{◌≡◌, ◌++◌, map, drop}
use Rattle.eb_eval.specs.declared.issues.Issue.TheVariants as issue
use Rattle.eb_system.specs.Stages.{left_out}
use Rattle.eb_system.proofs.changes.put_left_out.Given as goal

-- those so far, and those of the types that are left
abbrev pub invariant-loop-kind : goal.invariant-loop-kind
invariant-loop-kind l = l.issues ++ map (issue.SystemTooMany l.system l.name) (drop l.kind-index l.left) ≡ l.fn.issues ++ left_out l.fn.system l.fn.name l.fn.fault l.fn.left
