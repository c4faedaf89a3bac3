use Rattle.std.proofs.Common.{◌≡◌, ◌++◌, map, drop}
use Rattle.eb_eval.specs.declared.issues.Issue.TheVariants as issue
use Rattle.eb_merge.specs.Standing.{duplicates_at, kind_of}
use Rattle.eb_merge.proofs.own_cells.put_duplicates_at.Given as goal

-- those so far, and those of the bakers that are left
abbrev pub invariant-loop-baker : goal.invariant-loop-baker
invariant-loop-baker l = l.out ++ map (issue.Duplicate l.name (kind_of l.standing)) (drop l.baker-index l.standing.others) ≡ l.fn.out ++ duplicates_at l.fn.name l.fn.standing
