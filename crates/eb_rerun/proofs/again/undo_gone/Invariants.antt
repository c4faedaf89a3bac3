use Rattle.std.proofs.Common.{◌≡◌, drop}
use Rattle.std.specs.List.{fold}
use Rattle.eb_rerun.specs.Again.{undone_if_gone}
use Rattle.eb_rerun.proofs.again.undo_gone.Given as goal

-- the runs that are left do the rest
abbrev pub invariant-loop-id : goal.invariant-loop-id
invariant-loop-id l = fold (undone_if_gone l.rules l.project) l.kept (drop l.id-index l.ids) ≡ fold (undone_if_gone l.fn.rules l.fn.project) l.fn.kept l.fn.ids
