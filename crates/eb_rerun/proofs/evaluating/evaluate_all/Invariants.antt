use Rattle.std.proofs.Common.{◌≡◌, ◌+◌, drop, length}
use Rattle.std.specs.List.{fold}
use Rattle.eb_rerun.specs.Recorded.{with_run}
use Rattle.eb_rerun.proofs.evaluating.evaluate_all.Given as goal

-- the runs that are left do the rest, and are what is left to count
abbrev pub invariant-loop-id : goal.invariant-loop-id
invariant-loop-id g l =
    (fold (with_run l.rules l.project) l.kept (drop l.id-index l.ids) ≡ fold (with_run l.fn.rules l.fn.project) l.fn.kept l.fn.ids)
    × (l.steps + length (drop l.id-index l.ids) ≡ l.fn.steps + length l.fn.ids)
