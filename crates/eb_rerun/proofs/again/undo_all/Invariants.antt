use Rattle.std.proofs.Common.{◌≡◌, drop}
use Rattle.std.specs.List.{fold}
use Rattle.eb_rerun.specs.Again.{undone}
use Rattle.eb_rerun.proofs.again.undo_all.Given as goal

-- the runs that are left do the rest
abbrev pub invariant-loop-id : goal.invariant-loop-id
invariant-loop-id l = fold undone l.kept (drop l.id-index l.ids) ≡ fold undone l.fn.kept l.fn.ids
