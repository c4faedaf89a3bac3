use Rattle.std.proofs.Common.{◌≡◌, ◌++◌, map}
use Rattle.std.specs.FinMap.{entries}
use Rattle.eb_rerun.proofs.again.ids_of.Given as goal

-- the runs so far, and those that are left
abbrev pub invariant-loop-name : goal.invariant-loop-name
invariant-loop-name l = l.ids ++ map (λ e. e.1) l._name-iterator ≡ map (λ e. e.1) (entries l.set)
