use Rattle.std.proofs.Common.{◌≡◌, ◌-◌, ◌++◌, map}
use Rattle.eb_eval.specs.Runs.{all_bakers, id_of, most_bakers, numbers_from}
use Rattle.eb_rerun.proofs.near.put_runs_around.Given as goal

-- the runs so far, and those by the other bakers
abbrev pub invariant-loop-baker : goal.invariant-loop-baker
invariant-loop-baker l = l.out ++ map (id_of l.scene l.object) (numbers_from l.baker (most_bakers - l.baker)) ≡ l.fn.out ++ map (id_of l.fn.scene l.fn.object) all_bakers
