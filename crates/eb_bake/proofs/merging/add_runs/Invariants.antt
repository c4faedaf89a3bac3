use Rattle.std.proofs.Common.{◌≡◌, drop}
use Rattle.std.specs.List.{fold}
use Rattle.eb_merge.specs.Objects.{with_run}
use Rattle.eb_bake.specs.Recalled.{kept_runs}
use Rattle.eb_bake.proofs.merging.add_runs.Given as goal

-- the runs that are left do the rest
abbrev pub invariant-loop-id : goal.invariant-loop-id
invariant-loop-id l = fold (with_run l.place) l.merged (kept_runs l.kept (drop l.id-index l.ids)) ≡ fold (with_run l.fn.place) l.fn.merged (kept_runs l.fn.kept l.fn.ids)
