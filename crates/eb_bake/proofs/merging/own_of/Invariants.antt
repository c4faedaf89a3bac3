use Rattle.std.proofs.Common.{◌≡◌, drop}
use Rattle.std.specs.List.{fold}
use Rattle.eb_merge.specs.Objects.{own_after_run, own_standing}
use Rattle.eb_bake.specs.Recalled.{kept_runs}
use Rattle.eb_bake.proofs.merging.own_of.Given as goal

-- the runs that are left do the rest
abbrev pub invariant-loop-id : goal.invariant-loop-id
invariant-loop-id l = fold own_after_run l.own (kept_runs l.kept (drop l.id-index l.ids)) ≡ own_standing (kept_runs l.fn.kept l.fn.ids)
