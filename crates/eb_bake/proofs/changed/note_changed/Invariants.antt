use Rattle.std.proofs.Common.{◌≡◌}
use Rattle.std.specs.List.{fold}
use Rattle.std.specs.FinMap.{entries}
use Rattle.eb_bake.specs.Changed.{with_changed}
use Rattle.eb_bake.proofs.changed.note_changed.Given as goal

-- the entities that are left do the rest
abbrev pub invariant-loop-name : goal.invariant-loop-name
invariant-loop-name l = fold (with_changed l.old) l.out l.name-iterator ≡ fold (with_changed l.fn.old) l.fn.out (entries l.fn.new)
