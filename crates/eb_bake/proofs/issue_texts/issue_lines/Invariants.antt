use Rattle.std.proofs.Common.{◌≡◌, ◌++◌, drop}
use Rattle.std.specs.List.{flat_map}
use Rattle.eb_bake.specs.IssueTexts.{issue_line}
use Rattle.eb_bake.proofs.issue_texts.issue_lines.Given as goal

-- the lines so far, and those that are left
abbrev pub invariant-loop-issue : goal.invariant-loop-issue
invariant-loop-issue l = l.out.items ++ flat_map (issue_line l.schema) (drop l.issue-index l.issues) ≡ flat_map (issue_line l.fn.schema) l.fn.issues
