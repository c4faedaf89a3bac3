use Rattle.std.proofs.Common.{◌≡◌, drop}
use Rattle.std.specs.List.{fold}
use Rattle.eb_rerun.specs.Again.{object_of, objects_of_keys, with_object}
use Rattle.eb_rerun.proofs.near.objects_of_keys.Given as goal

-- the keys that are left do the rest
abbrev pub invariant-loop-key : goal.invariant-loop-key
invariant-loop-key l = fold (λ os k. with_object os (object_of k)) l.out (drop l.key-index l.keys) ≡ objects_of_keys l.fn.keys
