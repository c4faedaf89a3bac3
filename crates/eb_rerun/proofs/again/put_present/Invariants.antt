use Rattle.std.proofs.Common.{◌≡◌, drop}
use Rattle.std.specs.List.{fold}
use Rattle.eb_rerun.specs.Again.{with_present}
use Rattle.eb_rerun.proofs.again.put_present.Given as goal

-- the runs that are left do the rest
abbrev pub invariant-loop-id : goal.invariant-loop-id
invariant-loop-id l = fold (with_present l.rules l.project) l.out (drop l.id-index l.ids) ≡ fold (with_present l.fn.rules l.fn.project) l.fn.out l.fn.ids
