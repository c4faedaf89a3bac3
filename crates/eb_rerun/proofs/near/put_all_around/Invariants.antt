use Rattle.std.proofs.Common.{◌≡◌, ◌++◌, drop}
use Rattle.std.specs.List.{flat_map}
use Rattle.eb_rerun.specs.Again.{runs_around}
use Rattle.eb_rerun.proofs.near.put_all_around.Given as goal

-- those so far, and those of the objects that are left
abbrev pub invariant-loop-object : goal.invariant-loop-object
invariant-loop-object l = l.out ++ flat_map runs_around (drop l.object-index l.objects) ≡ l.fn.out ++ flat_map runs_around l.fn.objects
