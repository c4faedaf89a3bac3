use Rattle.std.proofs.Common.{◌≡◌, ◌-◌, ◌++◌}
use Rattle.eb_eval.specs.Runs.{most_bakers, numbers_from, object_runs, runs_by}
use Rattle.eb_eval.proofs.listing.object_runs.Given as goal

-- the runs so far, and those by the other bakers
abbrev pub invariant-loop-baker : goal.invariant-loop-baker
invariant-loop-baker l =
    l.runs ++ runs_by l.rules l.project l.scene l.object (numbers_from l.baker (most_bakers - l.baker)) ≡ object_runs l.rules l.project l.scene l.object
